-- What a check's items lead to.
use Rattle.std.proofs.Common.{◌≡◌, ℕ, ◌≤◌, Bool, true, false, Option, Result, Ok, Err, List, [], ◌∷◌, ◌++◌, refl, sym, ap, subst, ◌∙◌, arith, append_assoc, append-nil}
use Rattle.std.specs.Io.KnownBytes.{Appends}
use Rattle.std.proofs.KnownBytes.{Appends-nil, Appends-trans}
use Rattle.pota_base.specs.Changes.{change_of, counts_of}
use Rattle.event_log.specs.declared.item.Item.{Item}
use Rattle.fault_kinds.specs.declared.refusal.Refusal.{Refusal}
use Rattle.log_rules.specs.Judgement.{Prefix, Rules, Judgement, judge, judged}
use Rattle.log_rules.specs.Due.{closed_of}
use Rattle.log_rules.proofs.Items.{judged-append, refused-stays, all_more}
use Rattle.reported_log.specs.Aims.{Says, Aim, rules_of}
use Rattle.reported_log.specs.Checking.{IsCheckOf, GoesOn, HasClosed, MayFollow, IsRefusedAs}
use Rattle.reported_log.specs.declared.reported.ReportedLog.{ReportedLog}
use Rattle.reported_log.proofs.PassedOn.{follows_first, follows_all}
use Rattle.log_answers.specs.Asking.{asking_of, progress_of, reached_of}
use Rattle.log_answers.specs.declared.stop.StopCause.{StopCause}
use Rattle.log_answers.specs.declared.stop.StopCause.TheVariants as causes
use Rattle.log_answers.specs.declared.stop.Stop.{Stop}
use Rattle.log_answers.specs.declared.stop.Verdict.{Verdict}
use Rattle.log_answers.specs.Checking.{closed_in, AreReportsFor, HasPartOf, HasFrontOf, ReportStops}
use Rattle.log_answers.specs.Checking.{Reports, Stands, IsRefusedAt, StopsIn, TakesItems}
use Rattle.log_answers.specs.inside.Checking.{JudgeStops}

-- ---- reports behind those before

pub closed_more : (each : Bool) (rules : Rules) (j : Judgement) (items : List Item)
    → (rest : List Prefix) × (closed_in each (judged rules j items) ≡ closed_in each j ++ rest)
closed_more false rules j items = ([], refl)
closed_more true rules j items = all_more rules j items

judged-one : (rules : Rules) (j : Judgement) (i : Item) → judged rules j (i ∷ []) ≡ judge rules j i
unfolding judged
judged-one rules j i = refl

judged-none : (rules : Rules) (j : Judgement) → judged rules j [] ≡ j
unfolding judged
judged-none rules j = refl

pub closed_one : (each : Bool) (rules : Rules) (j : Judgement) (i : Item)
    → (rest : List Prefix) × (closed_in each (judge rules j i) ≡ closed_in each j ++ rest)
closed_one each rules j i =
    let more = closed_more each rules j (i ∷ []) in
    (more.0, ap (closed_in each) (sym (judged-one rules j i)) ∙ more.1)

same_closed : (each : Bool) (before after : Judgement) → closed_of after ≡ closed_of before
    → closed_in each after ≡ closed_in each before
same_closed false before after same = refl
same_closed true before after same = same

module _ (aim : Aim) where
  pub texts_as : (logs others : List Prefix) (text : List ℕ) → logs ≡ others
      → AreReportsFor aim others text → AreReportsFor aim logs text
  texts_as logs others text same h =
      subst (λ (ps : List Prefix). AreReportsFor aim ps text) (sym same) h

  pub part_of_more : (logs more all : List Prefix) (text : List ℕ) (n : ℕ) → all ≡ logs ++ more
      → HasPartOf aim logs text n → HasPartOf aim all text n
  part_of_more logs more all text n is h = record {
    before = h.before;
    log = h.log;
    behind = h.behind ++ more;
    are = is ∙ ap (λ (ps : List Prefix). ps ++ more) h.are
        ∙ append_assoc h.before (h.log ∷ h.behind) more;
    whole = h.whole;
    texts = h.texts;
    report = h.report;
    report_is = h.report_is;
    part = h.part;
    part_of = h.part_of;
    wrote = h.wrote;
    count = h.count;
  }

  pub front_of_more : (logs more all : List Prefix) (text : List ℕ) (n : ℕ) → all ≡ logs ++ more
      → HasFrontOf aim logs text n → HasFrontOf aim all text n
  front_of_more logs more all text n is h = record {
    front = h.front;
    rest = h.rest ++ more;
    are = is ∙ ap (λ (ps : List Prefix). ps ++ more) h.are ∙ append_assoc h.front h.rest more;
    texts = h.texts;
    count = h.count;
  }

  pub whole_front : (logs : List Prefix) (text : List ℕ) (n : ℕ) → AreReportsFor aim logs text
      → n ≡ 0 → HasFrontOf aim logs text n
  whole_front logs text n texts count = record {
    front = logs;
    rest = [];
    are = sym (append-nil logs);
    texts = texts;
    count = count;
  }

  -- ---- a stop stays a stop, whatever items follow

  pub stops_stay : (f : StopCause) (n of of' : ℕ) (each : Bool) (j : Judgement) (text : List ℕ)
      (items : List Item) → StopsIn f n (counts_of of of') (asking_of aim each) j text
      → StopsIn f n (counts_of of of') (asking_of aim each) (judged (rules_of aim) j items) text
  stops_stay f n of of' each j text items stop = go f stop
    where
      refused_stays : (why : Refusal) → IsRefusedAt aim each j text why n
          → IsRefusedAt aim each (judged (rules_of aim) j items) text why n
      refused_stays why h =
          let stays : judged (rules_of aim) j items ≡ j =
          ap (λ (k : Judgement). judged (rules_of aim) k items) h.is
          ∙ refused-stays (rules_of aim) h.log why items ∙ sym h.is in
          subst (λ (k : Judgement). IsRefusedAt aim each k text why n) (sym stays) h

      go : (g : StopCause) → StopsIn g n (counts_of of of') (asking_of aim each) j text
          → StopsIn g n (counts_of of of') (asking_of aim each) (judged (rules_of aim) j items) text
      go (causes.Refused r) h = refused_stays r h
      go causes.Write h =
          let more = closed_more each (rules_of aim) j items in
          (part_of_more (closed_in each j) more.0 _ text n more.1 h.0, h.1)
      go causes.Memory h =
          let more = closed_more each (rules_of aim) j items in
          front_of_more (closed_in each j) more.0 _ text n more.1 h
      go causes.Read h = absurd h

module _ {X : Type 0} {P : X → Type 0} (says : Says X P) (aim : Aim) where
  -- ---- one item

  module _ (each : Bool) (before : Judgement) (i : Item) (check now : ReportedLog X P) (text : List ℕ)
      (held : Option (List ℕ)) (of : ℕ) (stands : Stands says aim each check before text) where
    abbrev after : Judgement
    after = judge (rules_of aim) before i

    same_text : (t : List ℕ) → t ≡ text → AreReportsFor aim (closed_in each before) t
    same_text t same = subst (AreReportsFor aim (closed_in each before)) (sym same) stands.texts

    -- no report is due
    pub quiet : {T : Type 0} (closed : Bool) (x : T) → (closed ≡ true → each ≡ false)
        → GoesOn says aim now before after closed
        → TakesItems (change_of held held of of) says (asking_of aim each) now (progress_of after text) (Ok x)
    quiet closed x open_ on = record {
      written = [];
      wrote = Appends-nil held;
      later = omega arith;
      to = record {
        check_is = on.is;
        texts = texts_as aim (closed_in each after) (closed_in each before) (text ++ [])
            (none closed each open_ on) (same_text (text ++ []) (append-nil text));
      };
    }
      where
        none : (c e : Bool) → (c ≡ true → e ≡ false) → GoesOn says aim now before after c
            → closed_in e after ≡ closed_in e before
        none c false o g = refl
        none false true o g = g.closes
        none true true o g = absurd (let e = o refl in cc)

    -- the judgement is a refusal, or there was no memory
    pub judge_stops : {T : Type 0} (stop : Stop)
        → JudgeStops stop.cause stop.batches before after
        → TakesItems {T = T} (change_of held held of of) says (asking_of aim each) now (progress_of after text) (Err stop)
    judge_stops stop h = record {
      written = [];
      wrote = Appends-nil held;
      later = omega arith;
      to = go stop.cause stop.batches h;
    }
      where
        refused_at : (why : Refusal) (n : ℕ) → IsRefusedAs before after n why
            → IsRefusedAt aim each after (text ++ []) why n
        refused_at why n r = record {
          log = r.log;
          is = r.is;
          texts = texts_as aim (closed_in each after) (closed_in each before) (text ++ [])
              (same_closed each before after r.none) (same_text (text ++ []) (append-nil text));
          count = r.number;
        }

        go : (f : StopCause) (n : ℕ) → JudgeStops f n before after
            → StopsIn f n (counts_of of of) (asking_of aim each) after (text ++ [])
        go (causes.Refused why) n r = refused_at why n r
        go causes.Memory n r =
            let more = closed_one each (rules_of aim) before i in
            front_of_more aim (closed_in each before) more.0 _ (text ++ []) n more.1
            (whole_front aim (closed_in each before) (text ++ []) n (same_text (text ++ []) (append-nil text)) r)
        go causes.Read n r = absurd r
        go causes.Write n r = absurd r

  -- the report of a batch that was closed
  module _ (before : Judgement) (i : Item) (check now : ReportedLog X P) (text : List ℕ)
      (held held' : Option (List ℕ)) (of of' : ℕ) (stands : Stands says aim true check before text)
      (on : GoesOn says aim now before (judge (rules_of aim) before i) true) where
    abbrev next : Judgement
    next = judge (rules_of aim) before i

    pub report_written : {T : Type 0} (x : T) (v : Verdict) (last : ReportedLog X P) → IsCheckOf says aim last next
        → Reports (change_of held held' of of') aim now.log.intake.batches (reached_of (closed_of before) on.closes.0) text (Ok v)
        → TakesItems (change_of held held' of of') says (asking_of aim true) last (progress_of next text) (Ok x)
    report_written x v last still r = record {
      written = r.written;
      wrote = r.wrote;
      later = r.later;
      to = record {
        check_is = still;
        texts = texts_as aim (closed_of next) (closed_of before ++ on.closes.0 ∷ []) (text ++ r.written)
            on.closes.2 r.to.0;
      };
    }

    pub report_stops : {T : Type 0} (stop : Stop) (last : ReportedLog X P)
        → Reports (change_of held held' of of') aim now.log.intake.batches (reached_of (closed_of before) on.closes.0) text (Err stop)
        → TakesItems {T = T} (change_of held held' of of') says (asking_of aim true) last (progress_of next text) (Err stop)
    report_stops stop last r = record {
      written = r.written;
      wrote = r.wrote;
      later = r.later;
      to = go stop.cause stop.batches r.to;
    }
      where
        go : (f : StopCause) (n : ℕ)
            → ReportStops f n (counts_of of of') aim (reached_of (closed_of before) on.closes.0) (text ++ r.written)
            → StopsIn f n (counts_of of of') (asking_of aim true) next (text ++ r.written)
        go causes.Write n h = (
          part_of_more aim (closed_of before ++ on.closes.0 ∷ []) [] _ _ n
              (on.closes.2 ∙ sym (append-nil (closed_of before ++ on.closes.0 ∷ []))) h.0,
          h.1,
        )
        go causes.Memory n h =
            front_of_more aim (closed_of before) (on.closes.0 ∷ []) _ _ n on.closes.2 h
        go (causes.Refused why) n h = absurd h
        go causes.Read n h = absurd h

  -- a batch was closed, and each has a report
  module _ (each closed : Bool) (has_each : each ≡ true) (has_closed : closed ≡ true) (before : Judgement) (i : Item)
      (check now : ReportedLog X P) (text : List ℕ) (held held' : Option (List ℕ)) (of of' : ℕ)
      (stands : Stands says aim each check before text) (on : GoesOn says aim now before (judge (rules_of aim) before i) closed) where
    on_so : GoesOn says aim now before (judge (rules_of aim) before i) true
    on_so = subst (GoesOn says aim now before (judge (rules_of aim) before i)) has_closed on

    stands_so : Stands says aim true check before text
    stands_so = subst (λ (e : Bool). Stands says aim e check before text) has_each stands

    abbrev Writes : Result Verdict Stop → Type 0
    Writes result = (log : Prefix) → HasClosed (judge (rules_of aim) before i) log → AreReportsFor aim (closed_of before) text
        → Reports (change_of held held' of of') aim now.log.intake.batches (reached_of (closed_of before) log) text result

    pub closed_written : {T : Type 0} (x : T) (v : Verdict) (last : ReportedLog X P) → IsCheckOf says aim last (judge (rules_of aim) before i) → Writes (Ok v)
        → TakesItems (change_of held held' of of') says (asking_of aim each) last (progress_of (judge (rules_of aim) before i) text) (Ok x)
    closed_written x v last still writes =
        subst (λ (e : Bool). TakesItems (change_of held held' of of') says (asking_of aim e) last (progress_of (judge (rules_of aim) before i) text) (Ok x)) (sym has_each)
        (report_written before i check now text held held' of of' stands_so on_so x v last still (writes on_so.closes.0 on_so.closes.1 stands_so.texts))

    pub closed_stops : {T : Type 0} (stop : Stop) (last : ReportedLog X P) → Writes (Err stop)
        → TakesItems {T = T} (change_of held held' of of') says (asking_of aim each) last (progress_of (judge (rules_of aim) before i) text) (Err stop)
    closed_stops {T} stop last writes =
        subst (λ (e : Bool). TakesItems {T = T} (change_of held held' of of') says (asking_of aim e) last (progress_of (judge (rules_of aim) before i) text) (Err stop)) (sym has_each)
        (report_stops before i check now text held held' of of' stands_so on_so stop last (writes on_so.closes.0 on_so.closes.1 stands_so.texts))

    pub some_report : (j : Judgement) × (log : Prefix) × IsCheckOf says aim now j × HasClosed j log
    some_report = (judge (rules_of aim) before i, on_so.closes.0, on_so.is, on_so.closes.1)

  -- ---- all items

  -- some of the items were taken, behind this text
  pub record Taken (held held' : Option (List ℕ)) (of of' : ℕ) (each : Bool) (check : ReportedLog X P)
      (j : Judgement) (text : List ℕ) (items rest : List Item) : Type 0 where
    pub done : List Item
    pub split : items ≡ done ++ rest
    pub written : List ℕ
    pub wrote : Appends held held' written
    pub later : of ≤ of'
    pub stands : Stands says aim each check (judged (rules_of aim) j done) (text ++ written)

  pub taken_none : (held : Option (List ℕ)) (of : ℕ) (each : Bool) (check : ReportedLog X P)
      (j : Judgement) (text : List ℕ) (items : List Item) → Stands says aim each check j text
      → Taken held held of of each check j text items items
  taken_none held of each check j text items stands = record {
    done = [];
    split = refl;
    written = [];
    wrote = Appends-nil held;
    later = omega arith;
    stands = subst (λ (k : Judgement). Stands says aim each check k (text ++ []))
        (sym (judged-none (rules_of aim) j))
        (subst (Stands says aim each check j) (sym (append-nil text)) stands);
  }

  module _ (held now held' : Option (List ℕ)) (of of_now of' : ℕ) (each : Bool)
      (check next : ReportedLog X P) (j : Judgement) (text : List ℕ) (items : List Item) (i : Item)
      (rest : List Item) (t : Taken held now of of_now each check j text items (i ∷ rest)) where
    abbrev here : Judgement
    here = judged (rules_of aim) j t.done

    one_more : judged (rules_of aim) j (t.done ++ i ∷ []) ≡ judge (rules_of aim) here i
    one_more = judged-append (rules_of aim) j t.done (i ∷ []) ∙ judged-one (rules_of aim) here i

    split_now : items ≡ (t.done ++ i ∷ []) ++ rest
    split_now = t.split ∙ sym (append_assoc t.done (i ∷ []) rest)

    pub next_follows : MayFollow j items → MayFollow here (i ∷ [])
    next_follows follows =
        follows_first here i rest
        (follows_all (rules_of aim) j t.done (i ∷ rest) (subst (MayFollow j) t.split follows))

    pub taken_more : {T : Type 0} (x : T)
        → TakesItems (change_of now held' of_now of') says (asking_of aim each) next (progress_of (judge (rules_of aim) here i) (text ++ t.written)) (Ok x)
        → Taken held held' of of' each next j text items rest
    taken_more x r = record {
      done = t.done ++ i ∷ [];
      split = split_now;
      written = t.written ++ r.written;
      wrote = Appends-trans held now held' t.written r.written t.wrote r.wrote;
      later = omega (arith, t.later, r.later);
      stands = subst (λ (k : Judgement). Stands says aim each next k (text ++ (t.written ++ r.written))) (sym one_more)
          (subst (Stands says aim each next (judge (rules_of aim) here i)) (append_assoc text t.written r.written) r.to);
    }

    pub taken_stops : {T U : Type 0} (stop : Stop)
        → TakesItems {T = T} (change_of now held' of_now of') says (asking_of aim each) next (progress_of (judge (rules_of aim) here i) (text ++ t.written)) (Err stop)
        → TakesItems {T = U} (change_of held held' of of') says (asking_of aim each) next (progress_of (judged (rules_of aim) j items) text) (Err stop)
    taken_stops stop r = record {
      written = t.written ++ r.written;
      wrote = Appends-trans held now held' t.written r.written t.wrote r.wrote;
      later = omega (arith, t.later, r.later);
      to = subst (λ (k : Judgement). StopsIn stop.cause stop.batches (counts_of of of') (asking_of aim each) k (text ++ (t.written ++ r.written))) whole
          (stops_stay aim stop.cause stop.batches of of' each (judged (rules_of aim) j (t.done ++ i ∷ [])) (text ++ (t.written ++ r.written)) rest
          (earlier (judged (rules_of aim) j (t.done ++ i ∷ [])) (text ++ (t.written ++ r.written)) stop.cause stop.batches (subst (λ (k : Judgement). StopsIn stop.cause stop.batches (counts_of of_now of') (asking_of aim each) k (text ++ (t.written ++ r.written))) (sym one_more)
          (subst (StopsIn stop.cause stop.batches (counts_of of_now of') (asking_of aim each) (judge (rules_of aim) here i)) (append_assoc text t.written r.written) r.to))));
    }
      where
        whole : judged (rules_of aim) (judged (rules_of aim) j (t.done ++ i ∷ [])) rest ≡ judged (rules_of aim) j items
        whole = sym (judged-append (rules_of aim) j (t.done ++ i ∷ []) rest)
            ∙ ap (judged (rules_of aim) j) (sym split_now)

        earlier : (k : Judgement) (u : List ℕ) (f : StopCause) (n : ℕ) → StopsIn f n (counts_of of_now of') (asking_of aim each) k u
            → StopsIn f n (counts_of of of') (asking_of aim each) k u
        earlier k u (causes.Refused why) n h = h
        earlier k u causes.Write n h = (h.0, let rose = h.1 in omega (arith, rose, t.later))
        earlier k u causes.Memory n h = h
        earlier k u causes.Read n h = absurd h

  pub taken_all : {T : Type 0} (x : T) (held held' : Option (List ℕ)) (of of' : ℕ) (each : Bool)
      (check : ReportedLog X P) (j : Judgement) (text : List ℕ) (items rest : List Item) → rest ≡ []
      → Taken held held' of of' each check j text items rest
      → TakesItems (change_of held held' of of') says (asking_of aim each) check (progress_of (judged (rules_of aim) j items) text) (Ok x)
  taken_all x held held' of of' each check j text items rest none t =
      let same : t.done ≡ items =
      sym (append-nil t.done) ∙ ap (λ (xs : List Item). t.done ++ xs) (sym none) ∙ sym t.split in
      record {
        written = t.written;
        wrote = t.wrote;
        later = t.later;
        to = subst (λ (xs : List Item). Stands says aim each check (judged (rules_of aim) j xs) (text ++ t.written)) same t.stands;
      }

-- what stands between two items, for whatever the check is of
pub record TakenSoFar {X : Type 0} {P : X → Type 0} (says : Says X P) (held now : Option (List ℕ)) (of of_now : ℕ)
    (each each_now : Bool) (first check : ReportedLog X P) (items rest : List Item) : Type 0 where
  pub each_is : each_now ≡ each
  pub taken : (aim : Aim) (j : Judgement) (text : List ℕ) → Stands says aim each first j text → MayFollow j items
      → Taken says aim held now of of_now each check j text items rest

module _ {X : Type 0} {P : X → Type 0} (says : Says X P) (held : Option (List ℕ)) (of : ℕ) (each : Bool) (first : ReportedLog X P) (items : List Item) where
  pub begins : (rest : List Item) → rest ≡ items → TakenSoFar says held held of of each each first first items rest
  begins rest same = subst (TakenSoFar says held held of of each each first first items) (sym same) (record { each_is = refl; taken = λ aim j text stands follows. taken_none says aim held of each first j text items stands })

  module _ (now : Option (List ℕ)) (of_now : ℕ) (each_now : Bool) (check : ReportedLog X P) (i : Item) (rest here : List Item) (next_is : here ≡ i ∷ rest)
      (taken : TakenSoFar says held now of of_now each each_now first check items here) where
    t : TakenSoFar says held now of of_now each each_now first check items (i ∷ rest)
    t = subst (TakenSoFar says held now of of_now each each_now first check items) next_is taken

    -- where the item is taken
    pub may_take : (aim : Aim) × (j : Judgement) × (text : List ℕ) × Stands says aim each first j text × MayFollow j items
        → (aim : Aim) × (j : Judgement) × (text : List ℕ) × Stands says aim each_now check j text × MayFollow j (i ∷ [])
    may_take known =
        let aim = known.0 in
        let so_far = t.taken aim known.1 known.2 known.3 known.4 in (
          aim,
          judged (rules_of aim) known.1 so_far.done,
          known.2 ++ so_far.written,
          subst (λ (e : Bool). Stands says aim e check (judged (rules_of aim) known.1 so_far.done) (known.2 ++ so_far.written)) (sym t.each_is) so_far.stands,
          next_follows says aim held now now of of_now of_now each check check known.1 known.2 items i rest so_far known.4,
        )

    module _ (held' : Option (List ℕ)) (of' : ℕ) (each' : Bool) (next : ReportedLog X P) (same : each' ≡ each_now) where
      abbrev Takes : {T : Type 0} → Result T Stop → Type 0
      Takes {T} result = (aim : Aim) (j : Judgement) (text : List ℕ) → Stands says aim each_now check j text → MayFollow j (i ∷ [])
          → TakesItems {T = T} (change_of now held' of_now of') says (asking_of aim each_now) next (progress_of (judge (rules_of aim) j i) text) result

      takes : {T : Type 0} (result : Result T Stop) → Takes result → (aim : Aim) (j : Judgement) (text : List ℕ) → (stands : Stands says aim each first j text)
          → (follows : MayFollow j items) → (so_far : Taken says aim held now of of_now each check j text items (i ∷ rest))
          → TakesItems {T = T} (change_of now held' of_now of') says (asking_of aim each) next (progress_of (judge (rules_of aim) (judged (rules_of aim) j so_far.done) i) (text ++ so_far.written)) result
      takes result taking aim j text stands follows so_far =
          let here = judged (rules_of aim) j so_far.done in
          subst (λ (e : Bool). TakesItems (change_of now held' of_now of') says (asking_of aim e) next (progress_of (judge (rules_of aim) here i) (text ++ so_far.written)) result) t.each_is
          (taking aim here (text ++ so_far.written)
          (subst (λ (e : Bool). Stands says aim e check here (text ++ so_far.written)) (sym t.each_is) so_far.stands)
          (next_follows says aim held now held' of of_now of' each check next j text items i rest so_far follows))

      pub goes_on : {T : Type 0} (x : T) → Takes (Ok x) → TakenSoFar says held held' of of' each each' first next items rest
      goes_on x taking = record {
        each_is = same ∙ t.each_is;
        taken = λ aim j text stands follows.
            let so_far = t.taken aim j text stands follows in
            taken_more says aim held now held' of of_now of' each check next j text items i rest so_far x (takes (Ok x) taking aim j text stands follows so_far);
      }

      pub stops : {T U : Type 0} (stop : Stop) → Takes {T = T} (Err stop) → (aim : Aim) (j : Judgement) (text : List ℕ) → Stands says aim each first j text → MayFollow j items
          → TakesItems {T = U} (change_of held held' of of') says (asking_of aim each) next (progress_of (judged (rules_of aim) j items) text) (Err stop)
      stops stop taking aim j text stands follows =
          let so_far = t.taken aim j text stands follows in
          taken_stops says aim held now held' of of_now of' each check next j text items i rest so_far stop (takes (Err stop) taking aim j text stands follows so_far)

  pub all_done : {T : Type 0} (x : T) (now : Option (List ℕ)) (of_now : ℕ) (each_now : Bool) (check : ReportedLog X P) (rest : List Item) → rest ≡ []
      → TakenSoFar says held now of of_now each each_now first check items rest → (aim : Aim) (j : Judgement) (text : List ℕ) → Stands says aim each first j text → MayFollow j items
      → TakesItems (change_of held now of of_now) says (asking_of aim each) check (progress_of (judged (rules_of aim) j items) text) (Ok x)
  all_done x now of_now each_now check rest none t aim j text stands follows =
      taken_all says aim x held now of of_now each check j text items rest none (t.taken aim j text stands follows)
