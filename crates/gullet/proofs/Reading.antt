-- Phrases on a stack: behind each turn, whatever it found, the stack stands for what the recursion still reads.
use Rattle.std.specs.Prelude.{◌≡◌, refl, ℕ, ◌+◌, ◌<◌, true, false, List, [], ◌∷◌, ◌++◌, Some, None, Ok, Err}
use Rattle.std.proofs.Common.{zero, suc, ap, sym, ◌∙◌, subst, arith}
use Rattle.tokens.specs.declared.stop.Stop.{Stop}
use Rattle.tokens.specs.declared.stop.Stop.TheVariants.{Trouble, Capacity, Spent, ReadFault, WriteFault, OutOfMemory}
use Rattle.asking.specs.Asked.{walk_none, prefix_same, cut_later}
use Rattle.asking.specs.Did.{Did, Ended}
use Rattle.asking.specs.Leads.{does_then, does_end, told, tell_map}
use Rattle.asking.specs.Meaning.{Meant, Place, still}
use Rattle.asking.specs.Seen.{Outside, Seen, DoesBeside, DoesBesideBy, is_prefix}
use Rattle.phrases.specs.Phrases.{Found, More, Again, Inner, Aside, Ends, gives, finish_all}
use Rattle.phrases.specs.Stack.{StackLaw, stack_law, waiting}
use Rattle.phrases.specs.Stack as stack
use Rattle.phrases.specs.Unwinding.{Unwinds, unwinds_start}
use Rattle.gullet.specs.declared.context.Context.{Context}
use Rattle.gullet.specs.declared.frames.Frame.{Frame}
use Rattle.gullet.specs.declared.progress.Progress.{Progress}
use Rattle.gullet.specs.declared.task.Task.{Task}
use Rattle.gullet.specs.declared.task.Told.{Told}
use Rattle.gullet.specs.declared.task.Want.{Want}
use Rattle.gullet.specs.declared.task.Want.TheVariants as want
use Rattle.gullet.specs.Expansion.{rules, most_turns, by_want, begin, outcome}
use Rattle.gullet.specs.Frames.{again_of, Begins, Waits, AllWait, taken_then, GoesOn, Popped, Unfinished, phrases_of, AllStand, Reads}
use Rattle.gullet.specs.Progress.{Stands, WhileOpen, FitsToken, FitsGot, FitsWas, Ready, TakesUp}
use Rattle.gullet.specs.State.{State}
use Rattle.gullet.specs.Turned.{TakesToken, Expands, Acts, ReadsInner}
use Rattle.gullet.specs.Wants.{Taken}

-- ---- what is known of a phrase that wants this

at_token : (w : Want) (p : Progress) (P : Type 0) → TakesToken w → Ready w p → WhileOpen w P → FitsToken p × P
at_token want.Raw p P t r h = (r, h)
at_token want.Expanded p P t r h = (r, h)
at_token want.Character p P t r h = (r, h)
at_token (want.Act act) p P t r h = absurd t
at_token (want.Inner inner) p P t r h = absurd t
at_token (want.Gives told back) p P t r h = absurd t
at_token (want.Wrong kind) p P t r h = absurd t

at_expanded : (w : Want) (p : Progress) (P : Type 0) → Expands w → Ready w p → WhileOpen w P → (w ≡ want.Expanded) × FitsToken p × P
at_expanded want.Raw p P t r h = absurd t
at_expanded want.Expanded p P t r h = (refl, r, h)
at_expanded want.Character p P t r h = absurd t
at_expanded (want.Act act) p P t r h = absurd t
at_expanded (want.Inner inner) p P t r h = absurd t
at_expanded (want.Gives told back) p P t r h = absurd t
at_expanded (want.Wrong kind) p P t r h = absurd t

at_act : (w : Want) (p : Progress) (P : Type 0) → Acts w → Ready w p → WhileOpen w P → FitsWas p × P
at_act want.Raw p P t r h = absurd t
at_act want.Expanded p P t r h = absurd t
at_act want.Character p P t r h = absurd t
at_act (want.Act act) p P t r h = (r, h)
at_act (want.Inner inner) p P t r h = absurd t
at_act (want.Gives told back) p P t r h = absurd t
at_act (want.Wrong kind) p P t r h = absurd t

at_inner : (w : Want) (p : Progress) (P : Type 0) → ReadsInner w → Ready w p → WhileOpen w P → FitsGot p × P
at_inner want.Raw p P t r h = absurd t
at_inner want.Expanded p P t r h = absurd t
at_inner want.Character p P t r h = absurd t
at_inner (want.Act act) p P t r h = absurd t
at_inner (want.Inner inner) p P t r h = (r, h)
at_inner (want.Gives told back) p P t r h = absurd t
at_inner (want.Wrong kind) p P t r h = absurd t

same_again : (w : Want) → TakesToken w → again_of w ≡ w
same_again want.Raw t = refl
same_again want.Expanded t = refl
same_again want.Character t = refl
same_again (want.Act act) t = absurd t
same_again (want.Inner inner) t = absurd t
same_again (want.Gives told back) t = absurd t
same_again (want.Wrong kind) t = absurd t

pub popped_waits : (before : List Frame) (frame : Frame) (after : List Frame) → Popped before (Some frame) after → AllWait before → Waits frame.takes frame.progress
popped_waits before frame after e h = (let P : List Frame → Type 0 = λ fs. AllWait fs in subst P e h).0

-- ---- what a call says that asked for nothing, or ended for want of memory

cut_here : {S A : Type 0} (o : Outside) (now : Seen) (s : S) (m : Meant S A) → DoesBeside {A = A} o now now (Err OutOfMemory) s m
cut_here o now s m = ((refl, refl, refl), told o _ (cut_later now.place.shown (m now.place).asks now.place (prefix_same now.place.shown)))

went_cut : {S A : Type 0} (o : Outside) (old new : Seen) (m : Meant S A) (v : A) (s : S) → DoesBeside o old new (Ok v) s m → DoesBeside {A = A} o old new (Err OutOfMemory) s m
went_cut o old new m v s h =
    (h.0, tell_map o _ _ (λ a. ap (λ (p : Place). is_prefix new.place.shown p.shown) (sym a.1) ∙ prefix_same new.place.shown) h.1)

found_still : {S A : Type 0} (o : Outside) (now : Seen) (s : S) (d : Did S A) (v : A) → d ≡ Ok (v, s) → DoesBeside o now now (Ok v) s (still d)
found_still {S} o now s d v h = ((refl, refl, refl), told o _ (h, sym (walk_none S now.place)))

ended_still : {S A : Type 0} (o : Outside) (now : Seen) (s : S) (d : Did S A) (stop : Stop) → Ended stop s d → DoesBeside {A = A} o now now (Err stop) s (still d)
ended_still {S} o now s d (Trouble kind) h = ((refl, refl, refl), told o _ (h, sym (walk_none S now.place)))
ended_still {S} o now s d (Capacity cap) h = ((refl, refl, refl), told o _ (h, sym (walk_none S now.place)))
ended_still {S} o now s d Spent h = ((refl, refl, refl), told o _ (h, sym (walk_none S now.place)))
ended_still o now s d ReadFault h = absurd h
ended_still o now s d WriteFault h = absurd h
ended_still o now s d OutOfMemory h = cut_here o now s (still d)

-- an end is the same whatever would have been seen
pub unviewed : {S A B : Type 0} (view : B → A) (o : Outside) (old new : Seen) (m : Meant S A) (s : S) (stop : Stop)
    → DoesBesideBy {B = B} view o old new (Err stop) s m → DoesBeside {A = A} o old new (Err stop) s m
unviewed view o old new m s (Trouble kind) h = h
unviewed view o old new m s (Capacity cap) h = h
unviewed view o old new m s Spent h = h
unviewed view o old new m s ReadFault h = h
unviewed view o old new m s WriteFault h = h
unviewed view o old new m s OutOfMemory h = h

-- a turn is left while fewer were made than a number of 64 bits counts
pub is_left : (made : ℕ) → made < 18446744073709551615 → made < most_turns
unfolding most_turns
is_left made h = h

-- ---- the start

abbrev Law : Type 0
Law = StackLaw State Context Task Taken Told

law : Law
law = stack_law

-- what follows behind the beginning
abbrev further : Outside → Task → Context × State → Meant State Told
further o kind t = gives (rules o) most_turns t.0 kind [] t.1

module _ (o : Outside) (old : Seen) (context : Context) (kind : Task) (s : State) where
  pub reads_start : (d : Context) (p : Progress) (w : Want) → begin context kind s ≡ Ok (d, s) → Begins kind d p w
      → Reads o old old (outcome o context kind s) 0 [] d p w s
  unfolding outcome
  reads_start d p w e b =
      let whole : Meant State Told = further o kind (d, s) in
      let first : Unwinds (rules o) o old old whole most_turns [] most_turns d kind [] s = unwinds_start most_turns d kind [] s refl in record {
        ready = b.ready;
        below_wait = tt;
        kind = kind;
        taken = [];
        is = b.is;
        stands = b.stands;
        left = most_turns;
        counted = omega arith;
        turns = most_turns;
        phrases = [];
        below_stand = tt;
        unwinds = record {
          enough = omega arith;
          around_enough = tt;
          from = λ new result t h.
              does_then o old old (still (begin context kind s)) (further o kind) new d s t result
              (found_still o old s (begin context kind s) d e) (first.from new result t h);
        };
      }

  pub start_ended : (stop : Stop) → Ended stop s (begin context kind s) → DoesBeside {A = Told} o old old (Err stop) s (outcome o context kind s)
  unfolding outcome
  start_ended stop h = does_end o old old (still (begin context kind s)) (further o kind) s stop (ended_still o old s (begin context kind s) stop h)

-- ---- a turn

module _ {o : Outside} {old now : Seen} {whole : Meant State Told} {made : ℕ} {below : List Frame} {context : Context} {progress : Progress} {want : Want} {s : State} where
  -- a turn is left
  with_turn : (r : Reads o old now whole made below context progress want s) → made < most_turns → (R : Type 0)
      → ((left : ℕ) → suc left + made ≡ most_turns → Unwinds (rules o) o old now whole (suc left) (phrases_of below r.phrases) r.turns context r.kind r.taken s → R)
      → R
  with_turn r less R f = at r.left r.counted r.unwinds
    where
      at : (left : ℕ) → left + made ≡ most_turns → Unwinds (rules o) o old now whole left (phrases_of below r.phrases) r.turns context r.kind r.taken s → R
      at zero counted unwinds = absurd (omega (arith, counted, less))
      at (suc left) counted unwinds = f left counted unwinds

  -- what the turn found, of the phrase of the recursion
  seen_turn : (r : Reads o old now whole made below context progress want s) (mid : Seen) (found : Found Task Taken Told) (u : State)
      → DoesBeside o now mid (Ok found) u (by_want o context s want) → stack.Turned (rules o) o now mid found u context r.kind r.taken s
  seen_turn r mid found u h = let P : Want → Type 0 = λ w. DoesBeside o now mid (Ok found) u (by_want o context s w) in subst P r.is h

  -- one thing more is taken
  reads_more : (r : Reads o old now whole made below context progress want s) → made < most_turns → (mid : Seen) (u : State) (x : Taken) (p : Progress) (w : Want)
      → Stands progress context r.kind r.taken → DoesBeside o now mid (Ok (More x)) u (by_want o context s want) → TakesUp progress x p w
      → Reads o old mid whole (made + 1) below context p w u
  reads_more r less mid u x p w stands h up =
      with_turn r less (Reads o old mid whole (made + 1) below context p w u) (λ left counted unwinds.
      let next = law.more (rules o) o old now mid whole left r.turns (phrases_of below r.phrases) context r.kind r.taken s u x unwinds (seen_turn r mid (More x) u h) in record {
        ready = up.ready;
        below_wait = r.below_wait;
        kind = r.kind;
        taken = r.taken ++ x ∷ [];
        is = up.wants context r.kind r.taken stands;
        stands = up.stands context r.kind r.taken stands;
        left = left;
        counted = omega (arith, counted);
        turns = next.0;
        phrases = r.phrases;
        below_stand = r.below_stand;
        unwinds = next.1;
      })

  pub reads_token : (r : Reads o old now whole made below context progress want s) → made < most_turns → (mid : Seen) (u : State) (x : Taken) (p : Progress) (w : Want)
      → TakesToken want → DoesBeside o now mid (Ok (More x)) u (by_want o context s want) → TakesUp progress x p w
      → Reads o old mid whole (made + 1) below context p w u
  reads_token r less mid u x p w fits h up =
      reads_more r less mid u x p w (at_token want progress (Stands progress context r.kind r.taken) fits r.ready r.stands).1 h up

  pub reads_told : (r : Reads o old now whole made below context progress want s) → made < most_turns → (mid : Seen) (u : State) (x : Taken) (p : Progress) (w : Want)
      → Acts want → DoesBeside o now mid (Ok (More x)) u (by_want o context s want) → TakesUp progress x p w
      → Reads o old mid whole (made + 1) below context p w u
  reads_told r less mid u x p w fits h up =
      reads_more r less mid u x p w (at_act want progress (Stands progress context r.kind r.taken) fits r.ready r.stands).1 h up

  -- what the phrase waits for
  pub awaits_token : Reads o old now whole made below context progress want s → TakesToken want → FitsToken progress
  awaits_token r fits = (at_token want progress (Stands progress context r.kind r.taken) fits r.ready r.stands).0

  pub awaits_told : Reads o old now whole made below context progress want s → Acts want → FitsWas progress
  awaits_told r fits = (at_act want progress (Stands progress context r.kind r.taken) fits r.ready r.stands).0

  -- the phrase goes on as it was
  pub reads_again : (r : Reads o old now whole made below context progress want s) → made < most_turns → (mid : Seen) (u : State) (w : Want)
      → TakesToken want → w ≡ again_of want → DoesBeside o now mid (Ok Again) u (by_want o context s want)
      → Reads o old mid whole (made + 1) below context progress w u
  reads_again r less mid u w fits e h =
      let same : Reads o old mid whole (made + 1) below context progress want u =
      with_turn r less (Reads o old mid whole (made + 1) below context progress want u) (λ left counted unwinds.
      let next = law.again (rules o) o old now mid whole left r.turns (phrases_of below r.phrases) context r.kind r.taken s u unwinds (seen_turn r mid Again u h) in record {
        ready = r.ready;
        below_wait = r.below_wait;
        kind = r.kind;
        taken = r.taken;
        is = r.is;
        stands = r.stands;
        left = left;
        counted = omega (arith, counted);
        turns = next.0;
        phrases = r.phrases;
        below_stand = r.below_stand;
        unwinds = next.1;
      }) in
      let P : Want → Type 0 = λ v. Reads o old mid whole (made + 1) below context progress v u in
      subst P (sym (e ∙ same_again want fits)) same

  -- an inner phrase begins
  pub reads_inner : (r : Reads o old now whole made below context progress want s) → made < most_turns → (mid : Seen) (u : State) (j : Task) (d : Context) (p : Progress) (w : Want)
      → ReadsInner want → DoesBeside o now mid (Ok (Inner j)) u (by_want o context s want) → begin context j u ≡ Ok (d, u) → Begins j d p w
      → Reads o old mid whole (made + 1) (record { context = context; takes = true; progress = progress } ∷ below) d p w u
  reads_inner r less mid u j d p w fits h e b =
      let here = at_inner want progress (Stands progress context r.kind r.taken) fits r.ready r.stands in
      with_turn r less (Reads o old mid whole (made + 1) (record { context = context; takes = true; progress = progress } ∷ below) d p w u) (λ left counted unwinds.
      let next = law.inner (rules o) o old now mid mid whole left r.turns (phrases_of below r.phrases) context d r.kind j r.taken s u u unwinds
      (seen_turn r mid (Inner j) u h) (found_still o mid u (begin context j u) d e) in record {
        ready = b.ready;
        below_wait = (here.0, r.below_wait);
        kind = j;
        taken = [];
        is = b.is;
        stands = b.stands;
        left = left;
        counted = omega (arith, counted);
        turns = next.0;
        phrases = record { turns = next.0; kind = r.kind; taken = r.taken } ∷ r.phrases;
        below_stand = (record { stands = here.1; again = tt }, r.below_stand);
        unwinds = next.1;
      })

  pub reads_aside : (r : Reads o old now whole made below context progress want s) → made < most_turns → (mid : Seen) (u : State) (j : Task) (d : Context) (p : Progress) (w : Want)
      → Expands want → DoesBeside o now mid (Ok (Aside j)) u (by_want o context s want) → begin context j u ≡ Ok (d, u) → Begins j d p w
      → Reads o old mid whole (made + 1) (record { context = context; takes = false; progress = progress } ∷ below) d p w u
  reads_aside r less mid u j d p w fits h e b =
      let here = at_expanded want progress (Stands progress context r.kind r.taken) fits r.ready r.stands in
      with_turn r less (Reads o old mid whole (made + 1) (record { context = context; takes = false; progress = progress } ∷ below) d p w u) (λ left counted unwinds.
      let next = law.aside (rules o) o old now mid mid whole left r.turns (phrases_of below r.phrases) context d r.kind j r.taken s u u unwinds
      (seen_turn r mid (Aside j) u h) (found_still o mid u (begin context j u) d e) in record {
        ready = b.ready;
        below_wait = (here.1, r.below_wait);
        kind = j;
        taken = [];
        is = b.is;
        stands = b.stands;
        left = left;
        counted = omega (arith, counted);
        turns = next.0;
        phrases = record { turns = next.0; kind = r.kind; taken = r.taken } ∷ r.phrases;
        below_stand = (record { stands = here.2; again = sym r.is ∙ here.0 }, r.below_stand);
        unwinds = next.1;
      })

  -- the run ends in a turn, or for want of memory behind it, or where an inner phrase would begin
  pub turn_ended : (r : Reads o old now whole made below context progress want s) → made < most_turns → (mid : Seen) (u : State) (stop : Stop)
      → DoesBeside {A = Found Task Taken Told} o now mid (Err stop) u (by_want o context s want) → DoesBeside {A = Told} o old mid (Err stop) u whole
  turn_ended r less mid u stop h =
      let P : Want → Type 0 = λ w. DoesBeside {A = Found Task Taken Told} o now mid (Err stop) u (by_want o context s w) in
      with_turn r less (DoesBeside {A = Told} o old mid (Err stop) u whole) (λ left counted unwinds.
      law.ended (rules o) o old now mid whole left r.turns (phrases_of below r.phrases) context r.kind r.taken s u stop unwinds (subst P r.is h))

  pub turn_cut : (r : Reads o old now whole made below context progress want s) → made < most_turns → (mid : Seen) (u : State) (found : Found Task Taken Told)
      → DoesBeside o now mid (Ok found) u (by_want o context s want) → DoesBeside {A = Told} o old mid (Err OutOfMemory) u whole
  turn_cut r less mid u found h = turn_ended r less mid u OutOfMemory (went_cut o now mid (by_want o context s want) found u h)

  pub inner_ended : (r : Reads o old now whole made below context progress want s) → made < most_turns → (mid : Seen) (u : State) (j : Task) (stop : Stop)
      → DoesBeside o now mid (Ok (Inner j)) u (by_want o context s want) → Ended stop u (begin context j u) → DoesBeside {A = Told} o old mid (Err stop) u whole
  inner_ended r less mid u j stop h e =
      with_turn r less (DoesBeside {A = Told} o old mid (Err stop) u whole) (λ left counted unwinds.
      law.inner_ended (rules o) o old now mid mid whole left r.turns (phrases_of below r.phrases) context r.kind j r.taken s u u stop unwinds
      (seen_turn r mid (Inner j) u h) (ended_still o mid u (begin context j u) stop e))

  pub aside_ended : (r : Reads o old now whole made below context progress want s) → made < most_turns → (mid : Seen) (u : State) (j : Task) (stop : Stop)
      → DoesBeside o now mid (Ok (Aside j)) u (by_want o context s want) → Ended stop u (begin context j u) → DoesBeside {A = Told} o old mid (Err stop) u whole
  aside_ended r less mid u j stop h e =
      with_turn r less (DoesBeside {A = Told} o old mid (Err stop) u whole) (λ left counted unwinds.
      law.aside_ended (rules o) o old now mid mid whole left r.turns (phrases_of below r.phrases) context r.kind j r.taken s u u stop unwinds
      (seen_turn r mid (Aside j) u h) (ended_still o mid u (begin context j u) stop e))

  -- all turns were made
  pub reads_over : Reads o old now whole made below context progress want s → DoesBeside {A = Told} o old now (Err OutOfMemory) s whole
  reads_over r = r.unwinds.from now (Err OutOfMemory) s (cut_here o now s (finish_all (rules o) (phrases_of below r.phrases) r.turns context r.kind r.taken s))

module _ {o : Outside} {old now : Seen} {whole : Meant State Told} {made : ℕ} {context : Context} {progress : Progress} {want : Want} {s : State} where
  last : (r : Reads o old now whole made [] context progress want s) → made < most_turns → (mid : Seen) (u : State) (y : Told)
      → DoesBeside o now mid (Ok (Ends y)) u (by_want o context s want) → DoesBeside o old mid (Ok y) u whole
  last r less mid u y h =
      with_turn r less (DoesBeside o old mid (Ok y) u whole) (λ left counted unwinds.
      law.last (rules o) o old now mid whole left r.turns context r.kind r.taken s u y unwinds (seen_turn r mid (Ends y) u h))

  out : {frame : Frame} {below : List Frame} (r : Reads o old now whole made (frame ∷ below) context progress want s) → made < most_turns → (mid : Seen) (u : State) (y : Told)
      (p : Progress) (w : Want) → DoesBeside o now mid (Ok (Ends y)) u (by_want o context s want) → GoesOn frame.takes frame.progress y p w
      → Reads o old mid whole (made + 1) below frame.context p w u
  out {frame} {below} r less mid u y p w h g =
      with_turn r less (Reads o old mid whole (made + 1) below frame.context p w u) (λ left counted unwinds.
      at left counted r.phrases r.below_stand unwinds)
    where
      at : (left : ℕ) → suc left + made ≡ most_turns → (phrases : List Unfinished) → AllStand (frame ∷ below) phrases
          → Unwinds (rules o) o old now whole (suc left) (phrases_of (frame ∷ below) phrases) r.turns context r.kind r.taken s
          → Reads o old mid whole (made + 1) below frame.context p w u
      at left counted [] stand unwinds = absurd stand
      at left counted (phrase ∷ phrases) stand unwinds = record {
        ready = g.ready;
        below_wait = r.below_wait.1;
        kind = phrase.kind;
        taken = taken_then frame.takes y phrase.taken;
        is = g.is frame.context phrase.kind phrase.taken stand.0.stands stand.0.again;
        stands = g.stands frame.context phrase.kind phrase.taken stand.0.stands;
        left = left;
        counted = omega (arith, counted);
        turns = phrase.turns;
        phrases = phrases;
        below_stand = stand.1;
        unwinds = law.out (rules o) o old now mid whole left r.turns (waiting phrase.turns frame.context phrase.kind phrase.taken frame.takes)
            (phrases_of below phrases) context r.kind r.taken s u y unwinds (seen_turn r mid (Ends y) u h);
      }

  -- the phrase ends, and none is around it
  pub reads_last : {below : List Frame} (r : Reads o old now whole made below context progress want s) → made < most_turns → (mid : Seen) (u : State) (y : Told) (after : List Frame)
      → Popped below None after → DoesBeside o now mid (Ok (Ends y)) u (by_want o context s want) → DoesBeside o old mid (Ok y) u whole
  reads_last r less mid u y after e h =
      let P : List Frame → Type 0 = λ fs. Reads o old now whole made fs context progress want s in last (subst P e r) less mid u y h

  -- the one around it goes on
  pub reads_out : {below : List Frame} (r : Reads o old now whole made below context progress want s) → made < most_turns → (mid : Seen) (u : State) (y : Told)
      (frame : Frame) (after : List Frame) (p : Progress) (w : Want) → Popped below (Some frame) after → DoesBeside o now mid (Ok (Ends y)) u (by_want o context s want)
      → GoesOn frame.takes frame.progress y p w → Reads o old mid whole (made + 1) after frame.context p w u
  reads_out r less mid u y frame after p w e h g =
      let P : List Frame → Type 0 = λ fs. Reads o old now whole made fs context progress want s in out (subst P e r) less mid u y p w h g
