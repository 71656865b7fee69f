-- Inside: which hosts have a name that a log may have.
use Rattle.std.specs.Prelude.{◌≡◌, true}
use Rattle.pota_names.specs.Names.{is_name}
use Rattle.vclog_import.specs.Hosts.{Host, name_of}

-- the process of the host has a name
abbrev pub IsNamed : Host → Type 0
IsNamed host = is_name (name_of host) ≡ true
