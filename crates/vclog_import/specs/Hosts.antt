-- Hosts in their order, and their names.
use Rattle.std.specs.Prelude.{ℕ, Bool, false, ◌&&◌, nat_le, not, List, [], ◌∷◌, map}
use Rattle.std.specs.Prelude.{count_by, if◌then◌else◌}
use Rattle.std.specs.Cmp.Lexicographic.{slice_cmp}
use Rattle.std.specs.Ordering.{match_ordering, nat_cmp}
use Rattle.std.specs.Str.{bytes_eq}
use Rattle.pota_names.specs.Names.{is_name_byte}
use Rattle.vclog_import.specs.Lines.{Record}

-- the bytes of a host
abbrev pub Host : Type 0
Host = List ℕ

-- a letter, a digit or `_`, and `_` for each other byte
abbrev pub name_byte : ℕ → ℕ
name_byte b = if is_name_byte b then b else 95

abbrev pub begins_with_digit : Host → Bool
begins_with_digit [] = false
begins_with_digit (b ∷ rest) = nat_le 48 b && nat_le b 57

-- the name of the process of a host: `_` stands for each byte that no name has, and before a digit
-- at the front
abbrev pub name_of : Host → List ℕ
name_of host =
    if begins_with_digit host then 95 ∷ map name_byte host else map name_byte host

-- the hosts with this one, in the order of their bytes, each once
unfoldable pub with_host : Host → List Host → List Host
with_host host [] = host ∷ []
with_host host (h ∷ hosts) = match_ordering (slice_cmp nat_cmp host h)
    (host ∷ h ∷ hosts) (h ∷ hosts) (h ∷ with_host host hosts)

-- the hosts of records and these
unfoldable pub hosts_from : List Host → List Record → List Host
hosts_from hosts [] = hosts
hosts_from hosts (r ∷ rs) = hosts_from (with_host r.host hosts) rs

-- the hosts of records, in the order of their bytes
abbrev pub hosts_of : List Record → List Host
hosts_of rs = hosts_from [] rs

-- how many of the records are of the host
abbrev pub records_of : Host → List Record → ℕ
records_of host rs = count_by (λ (r : Record). bytes_eq r.host host) rs

-- two hosts whose processes would have one name
abbrev pub do_clash : Host → Host → Bool
do_clash g h = bytes_eq (name_of g) (name_of h) && not (bytes_eq g h)
