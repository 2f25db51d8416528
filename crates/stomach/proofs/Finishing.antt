-- From all turns of a run, and the showing of its ending, to the whole run.
use Rattle.std.proofs.Common.{◌≡◌, ℕ, ◌<◌, ◌≤◌, true, false, List, ◌++◌, Option, Some, None, Result, Ok, Err, refl, ap, sym, ◌∙◌, arith, subst}
use Rattle.std.specs.Prelude.{Bool, cond, min}
use Rattle.tokens.specs.declared.stop.Stop.{Stop}
use Rattle.tokens.specs.declared.stop.Stop.TheVariants.{Trouble, Capacity, Spent, ReadFault, WriteFault, OutOfMemory}
use Rattle.world.specs.declared.world.WorldError.{WorldError}
use Rattle.world.specs.declared.world.WorldError.TheVariants.{Failed, OutOfMemory as NoMemory}
use Rattle.world.specs.Output.{Output}
use Rattle.asking.specs.Asked.{prefix_longer, prefix_same}
use Rattle.asking.specs.Did.{Did}
use Rattle.asking.specs.Leads.{tell_map, tell_two}
use Rattle.asking.specs.Library.{ShowsBeside}
use Rattle.asking.specs.Meaning.{Place, Meaning, Meant, walk, asked_at}
use Rattle.asking.specs.Seen.{Outside, Seen, Told, Rose, Went, IsCut, is_prefix}
use Rattle.asking.specs.Turns.{turns}
use Rattle.stomach.specs.declared.ending.Exit.{Exit}
use Rattle.stomach.specs.declared.ending.Exit.TheVariants as exits
use Rattle.stomach.specs.declared.state.State.{State}
use Rattle.stomach.specs.Ending.{ending, outcome_at, failed_in, text_at, EndsBy, IsCutRun, exit_by, output_by, cut_short, exit_after, ended_well, ended_early}
use Rattle.stomach.specs.Faults.{ReadFaultWhere, WriteFaultWhere}
use Rattle.stomach.specs.Running.{DoesAll, Runs}

-- where a world tells, a count that rose is greater
rose_told : (o : Outside) (a b : ℕ) → Rose o.tells a b → Told o (a < b)
rose_told o a b = at o.tells
  where
    at : (t : Bool) → Rose t a b → cond t (a < b) (Unit {0})
    at true h = h
    at false h = tt

rose_more : (o : Outside) (a b : ℕ) → Rose o.tells a b → a ≤ b
rose_more o a b = at o.tells
  where
    at : (t : Bool) → Rose t a b → a ≤ b
    at true h = omega arith
    at false h = h.0

-- the turns stand at their end, with this to be shown: how the run ends where all of it is shown, and where a part of it is
record Stands (o : Outside) (old mid : Seen) (given : ℕ) (once : State → Meant State Bool) (first s : State) (exit : Exit) (out : Output) : Type 0 where
  which : mid.which ≡ old.which
  reads : ReadFaultWhere o.tells exit old.reads mid.reads
  more : old.reads ≤ mid.reads
  writes : WriteFaultWhere o.tells exit old.writes mid.writes
  same : mid.writes ≡ old.writes
  ends : Told o ((n : ℕ) × EndsBy exit (turns once n first old.place) given old.place (mid.place.shown ++ out.unflushed) (min s.budget.used given) mid.place.asked old.reads mid.reads
      × ((part : List ℕ) → is_prefix part (mid.place.shown ++ out.unflushed) ≡ true
      → IsCutRun (turns once n first old.place) given old.place part mid.place.asked old.reads mid.reads))

module _ (o : Outside) (old mid : Seen) (given : ℕ) (once : State → Meant State Bool) (first s : State) where
  abbrev made : ℕ → Meaning State Bool
  made n = turns once n first old.place

  abbrev Ends : Exit → Output → Type 0
  Ends exit out = Stands o old mid given once first s exit out

  abbrev Whole : Seen → Exit → Type 0
  Whole new exit = Runs o old new exit (min s.budget.used given) given once first

  -- the turns are over, with this outcome and this text
  over : (did : Did State Bool) (exit : Exit) (out : Output) (n : ℕ) → ((k : ℕ) → k ≡ old.reads → ReadFaultWhere o.tells exit old.reads k)
      → ((k : ℕ) → k ≡ old.writes → WriteFaultWhere o.tells exit old.writes k)
      → (outcome_at given (walk (made n).asks old.place) (made n).ends ≡ Some (ending exit out given mid.place s)
      → EndsBy exit (made n) given old.place (mid.place.shown ++ out.unflushed) (min s.budget.used given) mid.place.asked old.reads mid.reads)
      → ((p : Place) → outcome_at given p did ≡ Some (ending exit out given p s)) → ((p : Place) → text_at p did ≡ p.shown ++ out.unflushed)
      → Went o old mid (turns once n first) did → Ends exit out
  over did exit out n reads writes ends is text h =
      let calm = h.0.1 in
      record {
        which = h.0.0;
        reads = reads mid.reads calm;
        more = omega (arith, calm);
        writes = writes mid.writes h.0.2;
        same = h.0.2;
        ends = tell_map o _ _ (λ a. (
          n,
          ends (ap (λ (d : Did State Bool). outcome_at given (walk (made n).asks old.place) d) a.0 ∙ ap (λ (p : Place). outcome_at given p did) (sym a.1) ∙ is mid.place),
          λ part begins. record {
            whole = λ _.
                ap (λ (shown : List ℕ). is_prefix part shown) (ap (λ (d : Did State Bool). text_at (walk (made n).asks old.place) d) a.0
                ∙ ap (λ (p : Place). text_at p did) (sym a.1) ∙ text mid.place) ∙ begins;
            failed = λ less. absurd (omega (arith, less, calm));
          },
        )) h.1;
      }

  stands : (result : Result (Unit {0}) Stop) → cut_short result ≡ None → DoesAll o old mid result s once first → Ends (exit_by result) (output_by result s)
  stands (Ok done) e h =
      over (Ok (false, s)) exits.Done (ended_well s) h.times (λ k e. e) (λ k e. e) (λ e. e) (λ p. refl) (λ p. refl) h.does
  stands (Err (Trouble kind)) e h =
      over (Err (Trouble kind, s)) exits.Trouble (ended_early (Trouble kind) s) h.times (λ k e. e) (λ k e. e) (λ e. e) (λ p. refl) (λ p. refl) h.does
  stands (Err (Capacity cap)) e h =
      over (Err (Capacity cap, s)) exits.Capacity (ended_early (Capacity cap) s) h.times (λ k e. e) (λ k e. e) (λ e. e) (λ p. refl) (λ p. refl) h.does
  stands (Err Spent) e h =
      over (Err (Spent, s)) exits.Spent (ended_early Spent s) h.times (λ k e. e) (λ k e. e) (λ e. e) (λ p. refl) (λ p. refl) h.does
  stands (Err ReadFault) e h = record {
    which = h.does.0.0;
    reads = h.does.0.1;
    more = rose_more o old.reads mid.reads h.does.0.1;
    writes = h.does.0.2;
    same = h.does.0.2;
    ends = tell_two o _ _ _ (λ less a.
        let it : failed_in given (asked_at mid.place.asked (made h.times).asks old.place) ≡ Some (ending exits.ReadFault (ended_early ReadFault s) given mid.place s) =
        ap (λ (f : Option (State × Place)). failed_in given f) a in (
          h.times,
          it,
          λ part begins. record {
            whole = λ same. absurd (omega (arith, less, same));
            failed = λ _. (ending exits.ReadFault (ended_early ReadFault s) given mid.place s, (it, begins));
          },
        )) (rose_told o old.reads mid.reads h.does.0.1) h.does.1;
  }
  stands (Err WriteFault) e h = cc
  stands (Err OutOfMemory) e h = cc

  -- the ending could not be printed for want of memory: nothing more is shown
  pub runs_unshown : (result : Result (Unit {0}) Stop) → cut_short result ≡ None → DoesAll o old mid result s once first → Whole mid exits.OutOfMemory
  runs_unshown result e h =
      let at : Ends (exit_by result) (output_by result s) = stands result e h in
      record {
        which = at.which;
        reads = at.more;
        writes = at.same;
        ends = tell_map o _ _ (λ a. (a.0, a.2 mid.place.shown (prefix_longer mid.place.shown mid.place.shown (output_by result s).unflushed (prefix_same mid.place.shown)))) at.ends;
      }

  -- the ending was shown, or refused
  shown : (new : Seen) (exit : Exit) (out : Output) (result : Result (Unit {0}) WorldError) → Ends exit out → ShowsBeside o out.unflushed mid new result → Whole new (exit_after exit result)
  shown new exit out (Ok done) at g = record {
    which = g.0.0 ∙ at.which;
    reads = subst (λ (n : ℕ). ReadFaultWhere o.tells exit old.reads n) (sym g.0.1) at.reads;
    writes = subst (λ (n : ℕ). WriteFaultWhere o.tells exit old.writes n) (sym g.0.2) at.writes;
    ends = tell_two o _ _ _ (λ a b.
        let P : ℕ → Type 0 = λ n. EndsBy exit (made a.0) given old.place (mid.place.shown ++ out.unflushed) (min s.budget.used given) mid.place.asked old.reads n in
        let Q : Place → Type 0 = λ p. EndsBy exit (made a.0) given old.place p.shown (min s.budget.used given) p.asked old.reads new.reads in
        (a.0, subst Q (sym b) (subst P (sym g.0.1) a.1))) at.ends g.1;
  }
  shown new exit out (Err Failed) at g = record {
    which = g.0.0 ∙ at.which;
    reads = (let a = at.more in let b = g.0.1 in omega (arith, a, b));
    writes = subst (λ (n : ℕ). Rose o.tells n new.writes) at.same g.0.2;
    ends = tell_two o _ _ _ (λ a b. (a.0, rw (b.1, g.0.1) (a.2 new.place.shown b.0))) at.ends g.1;
  }
  shown new exit out (Err NoMemory) at g = record {
    which = g.0.0 ∙ at.which;
    reads = (let a = at.more in let b = g.0.1 in omega (arith, a, b));
    writes = g.0.2 ∙ at.same;
    ends = tell_two o _ _ _ (λ a b. (a.0, rw (b.1, g.0.1) (a.2 new.place.shown b.0))) at.ends g.1;
  }

  pub runs_shown : (new : Seen) (result : Result (Unit {0}) Stop) (shows : Result (Unit {0}) WorldError) (exit : Exit) (out : Output) → cut_short result ≡ None
      → exit ≡ exit_by result → out ≡ output_by result s → DoesAll o old mid result s once first → ShowsBeside o out.unflushed mid new shows
      → Whole new (exit_after exit shows)
  runs_shown new result shows exit out e x p h g =
      shown new exit out shows (subst (λ (t : Exit). Ends t out) (sym x) (subst (λ (t : Output). Ends (exit_by result) t) (sym p) (stands result e h))) g

  -- a write was refused, or memory ran out: nothing more is shown
  cut : (n : ℕ) → IsCut o old mid (turns once n first) → mid.reads ≡ old.reads
      → Told o ((k : ℕ) × IsCutRun (made k) given old.place mid.place.shown mid.place.asked old.reads mid.reads)
  cut n h calm = tell_map o _ _ (λ a. (n, record { whole = λ _. longer (made n).ends a; failed = λ less. absurd (omega (arith, less, calm)) })) h
    where
      longer : (d : Did State Bool) → is_prefix mid.place.shown (walk (made n).asks old.place).shown ≡ true
          → is_prefix mid.place.shown (text_at (walk (made n).asks old.place) d) ≡ true
      longer (Ok (true, t)) a = a
      longer (Ok (false, t)) a = prefix_longer mid.place.shown (walk (made n).asks old.place).shown (ended_well t).unflushed a
      longer (Err (stop, t)) a = prefix_longer mid.place.shown (walk (made n).asks old.place).shown (ended_early stop t).unflushed a

  pub runs_cut : (result : Result (Unit {0}) Stop) (exit : Exit) → Some exit ≡ cut_short result → DoesAll o old mid result s once first → Whole mid exit
  runs_cut (Ok done) exit e h = cc
  runs_cut (Err (Trouble kind)) exit e h = cc
  runs_cut (Err (Capacity cap)) exit e h = cc
  runs_cut (Err Spent) exit e h = cc
  runs_cut (Err ReadFault) exit e h = cc
  runs_cut (Err WriteFault) exit e h =
      let is : exits.WriteFault ≡ exit = cc in
      let calm = h.does.0.1 in
      subst (Whole mid) is (record { which = h.does.0.0; reads = omega (arith, calm); writes = h.does.0.2; ends = cut h.times h.does.1 calm })
  runs_cut (Err OutOfMemory) exit e h =
      let is : exits.OutOfMemory ≡ exit = cc in
      let calm = h.does.0.1 in
      subst (Whole mid) is (record { which = h.does.0.0; reads = omega (arith, calm); writes = h.does.0.2; ends = cut h.times h.does.1 calm })
