-- What comes next of a source follows from what the calls of its eye answer.
use Rattle.std.proofs.Common.{◌≡◌, ℕ, ℤ, true, false, List, [], ◌∷◌, Result, Ok, Err, ap, ◌∙◌, sym, subst, refl}
use Rattle.std.specs.Prelude.{Bool, MatchBool, not, ◌&&◌, if◌then◌else◌}
use Rattle.std.proofs.lemmas.Bool.{false≢true}
use Rattle.catcode_eye.specs.declared.seen.Glance.{Glance}
use Rattle.catcode_eye.specs.declared.seen.Glance.TheVariants as glances
use Rattle.catcode_eye.specs.declared.seen.Seen.{Seen}
use Rattle.catcode_eye.specs.declared.seen.Seen.TheVariants.{Char as SeenChar, Active as SeenActive, Word, Par, LineEnd}
use Rattle.catcode_eye.specs.declared.seen.State.{State}
use Rattle.catcode_eye.specs.Glance.{Glimpses}
use Rattle.catcode_eye.specs.Seen.{Sight as EyeSight, sight, is_line_end, shows_nothing}
use Rattle.catcode_eye.specs.Outlook.{Outlook, has_line, next_seen, next_line, next_line_of, with_sight, is_line_finished}
use Rattle.tokens.specs.Budget.{Allowance, is_spent, after_step}
use Rattle.tokens.specs.Ends.{Ends}
use Rattle.tokens.specs.declared.stop.Stop.{Stop}
use Rattle.tokens.specs.declared.stop.Stop.TheVariants.{Trouble, Capacity, Spent, ReadFault, WriteFault, OutOfMemory}
use Rattle.pending.specs.declared.source.Source.{Source}
use Rattle.pending.specs.declared.source.Sight.{Sight}
use Rattle.pending.specs.declared.source.Sight.TheVariants.{End}
use Rattle.pending.specs.Did.{Did, Does, Ended, Ended-of}
use Rattle.pending.specs.Origin.{with_line_taken}
use Rattle.pending.specs.Take.{Looking, looking, with_eye, is_unpaid, taken, as_token, used_up, with_next, at_line_end, by_seen, glanced, next_sight, next_sight-step}

-- where a line is left, another is taken for a step
at_unread : (endline : ℤ) (f : Looking → Did Looking Sight) (r : Looking) (unread : List (List ℕ)) → has_line unread ≡ true
    → at_line_end endline f r unread false
    ≡ (if is_spent r.budget then Err (Spent, r) else with_next f r (next_line_of endline r.source.eye unread))
at_unread endline f r [] h = absurd (false≢true h)
at_unread endline f r (line ∷ lines) h = refl

at_none : (endline : ℤ) (f : Looking → Did Looking Sight) (r : Looking) (unread : List (List ℕ)) → has_line unread ≡ false
    → at_line_end endline f r unread false ≡ used_up r.source.origin r
at_none endline f r [] h = refl
at_none endline f r (line ∷ lines) h = absurd (false≢true (sym h))

-- what is seen, if something is
abbrev seen_in : Seen → Result (Seen × Outlook) Stop → Seen
seen_in seen (Ok found) = found.0
seen_in seen (Err stop) = seen

-- the end of the run, if it is one
abbrev end_of : Did Looking Sight → Stop
end_of (Ok found) = OutOfMemory
end_of (Err ended) = ended.0

-- a finished line shows its end alone
finished_end : (eye : Outlook) (s : Result EyeSight Stop) (seen : Seen) (after : Outlook)
    → shows_nothing s ≡ true → with_sight eye s ≡ Ok (seen, after) → is_line_end seen ≡ true
finished_end eye (Ok s) seen after h e =
    let same : s.seen ≡ seen = ap (seen_in s.seen) e in
    ap is_line_end (sym same) ∙ h
finished_end eye (Err stop) seen after h e = absurd (false≢true h)

-- without a step that is left, nothing but a line's end is passed
spent_sight : (endline : ℤ) (f : Looking → Did Looking Sight) (r : Looking) (s : Result EyeSight Stop) → shows_nothing s ≡ false
    → is_spent r.budget ≡ true → by_seen endline f r (with_sight r.source.eye s) ≡ Err (Spent, r)
spent_sight endline f r (Err stop) h spent = rw spent refl
spent_sight endline f r (Ok s) h spent = at s.seen s.rest s.state h
  where
    at : (seen : Seen) (rest : List ℕ) (state : State) → is_line_end seen ≡ false
        → by_seen endline f r (Ok (seen, record { unread = r.source.eye.unread; rest = rest; state = state })) ≡ Err (Spent, r)
    at (SeenChar cat byte) rest state h = rw spent refl
    at (SeenActive byte) rest state h = rw spent refl
    at (Word text) rest state h = rw spent refl
    at Par rest state h = rw spent refl
    at LineEnd rest state h = absurd (false≢true (sym h))

-- a step that is left is spent
pub spent_after : (is_taken : Bool) (old new : Allowance) → is_taken ≡ not (is_spent old) → is_spent old ≡ false
    → MatchBool is_taken (new ≡ after_step old) (new ≡ old) → new ≡ after_step old
spent_after true old new e left h = h
spent_after false old new e left h = absurd (false≢true (e ∙ ap not left))

module _ (cats : List ℕ) (endline : ℤ) (source : Source) (after : Outlook) (names : List (List ℕ)) (budget : Allowance) where
  pub spent_first : is_spent budget ≡ true → is_line_finished cats source.eye ≡ false
      → next_sight cats endline (looking source names budget) ≡ Err (Spent, looking source names budget)
  spent_first spent h =
      next_sight-step cats endline (looking source names budget)
      ∙ spent_sight endline (next_sight cats endline) (looking source names budget) (sight cats source.eye.state source.eye.rest) h spent

  pub at_end : next_seen cats source.eye ≡ Ok (LineEnd, after)
      → next_sight cats endline (looking source names budget)
      ≡ at_line_end endline (next_sight cats endline) (looking (with_eye after source) names budget) after.unread source.is_ending
  at_end e = next_sight-step cats endline (looking source names budget) ∙ ap (by_seen endline (next_sight cats endline) (looking source names budget)) e

  pub at_ending : next_seen cats source.eye ≡ Ok (LineEnd, after) → source.is_ending ≡ true
      → next_sight cats endline (looking source names budget) ≡ Ok (End, looking (with_eye after source) names budget)
  at_ending e ending =
      at_end e ∙ ap (at_line_end endline (next_sight cats endline) (looking (with_eye after source) names budget) after.unread) ending

  pub at_last : next_seen cats source.eye ≡ Ok (LineEnd, after) → source.is_ending ≡ false → has_line after.unread ≡ false
      → next_sight cats endline (looking source names budget)
      ≡ used_up source.origin (looking (with_eye after source) names budget)
  at_last e ending none =
      at_end e ∙ ap (at_line_end endline (next_sight cats endline) (looking (with_eye after source) names budget) after.unread) ending
      ∙ at_none endline (next_sight cats endline) (looking (with_eye after source) names budget) after.unread none

  pub at_more : next_seen cats source.eye ≡ Ok (LineEnd, after) → source.is_ending ≡ false → has_line after.unread ≡ true
      → next_sight cats endline (looking source names budget)
      ≡ (if is_spent budget then Err (Spent, looking (with_eye after source) names budget)
      else with_next (next_sight cats endline) (looking (with_eye after source) names budget) (next_line endline after))
  at_more e ending some =
      at_end e ∙ ap (at_line_end endline (next_sight cats endline) (looking (with_eye after source) names budget) after.unread) ending
      ∙ at_unread endline (next_sight cats endline) (looking (with_eye after source) names budget) after.unread some

  pub line_spent : next_seen cats source.eye ≡ Ok (LineEnd, after) → source.is_ending ≡ false → has_line after.unread ≡ true
      → is_spent budget ≡ true
      → next_sight cats endline (looking source names budget) ≡ Err (Spent, looking (with_eye after source) names budget)
  line_spent e ending some spent = at_more e ending some ∙ (rw spent refl)

  pub line_taken : (is_taken : Bool) (eye : Outlook) → next_seen cats source.eye ≡ Ok (LineEnd, after) → source.is_ending ≡ false
      → has_line after.unread ≡ true → is_spent budget ≡ false → next_line endline after ≡ Ok (is_taken, eye)
      → next_sight cats endline (looking source names budget)
      ≡ next_sight cats endline (looking (with_line_taken eye source) names (after_step budget))
  line_taken is_taken eye e ending some spent l = at_more e ending some ∙ (rw (spent, l) refl)

  pub line_refused : (stop : Stop) → next_seen cats source.eye ≡ Ok (LineEnd, after) → source.is_ending ≡ false
      → has_line after.unread ≡ true → is_spent budget ≡ false → Ends (next_line endline after) stop
      → Ended stop (looking (with_eye after source) names budget) (next_sight cats endline (looking source names budget))
  line_refused stop e ending some spent l = by_stop stop l
    where
      whole : (s : Stop) → next_line endline after ≡ Err s
          → next_sight cats endline (looking source names budget) ≡ Err (s, looking (with_eye after source) names budget)
      whole s l = at_more e ending some ∙ (rw (spent, l) refl)

      by_stop : (s : Stop) → Ends (next_line endline after) s
          → Ended s (looking (with_eye after source) names budget) (next_sight cats endline (looking source names budget))
      by_stop (Trouble kind) l = whole (Trouble kind) l
      by_stop (Capacity which) l = whole (Capacity which) l
      by_stop Spent l = whole Spent l
      by_stop ReadFault l = whole ReadFault l
      by_stop WriteFault l = whole WriteFault l
      by_stop OutOfMemory l = tt

  -- the same with the eye that the call left
  pub line_refused_at : (left : Outlook) (stop : Stop) → next_seen cats source.eye ≡ Ok (LineEnd, after) → source.is_ending ≡ false
      → has_line after.unread ≡ true → is_spent budget ≡ false → Ends (next_line endline after) stop → left ≡ after
      → Ended stop (looking (with_eye left source) names budget) (next_sight cats endline (looking source names budget))
  line_refused_at left stop e ending some spent l same =
      let P : Outlook → Type 0 = λ eye. Ended stop (looking (with_eye eye source) names budget) (next_sight cats endline (looking source names budget)) in
      subst P (sym same) (line_refused stop e ending some spent l)

  -- a step is left where anything but a line's end is seen behind the first test
  pub glance_unspent : (glance : Glance) (word : List ℕ) → (glance ≡ glances.LineEnd → ⊥) → (glance ≡ glances.OutOfMemory → ⊥)
      → Glimpses cats source.eye glance word after → is_line_finished cats source.eye ≡ true → ⊥
  glance_unspent glance word n m g fin = by_glance glance n m g
    where
      ends : (seen : Seen) → next_seen cats source.eye ≡ Ok (seen, after) → is_line_end seen ≡ false → ⊥
      ends seen e h =
          false≢true (sym h ∙ finished_end source.eye (sight cats source.eye.state source.eye.rest) seen after fin e)

      invalid : (s : Result EyeSight Stop) (stop : Stop) → with_sight source.eye s ≡ Err stop → shows_nothing s ≡ true → ⊥
      invalid (Ok s) stop e h = cc
      invalid (Err t) stop e h = false≢true h

      by_glance : (g : Glance) → (g ≡ glances.LineEnd → ⊥) → (g ≡ glances.OutOfMemory → ⊥) → Glimpses cats source.eye g word after → ⊥
      by_glance (glances.Char cat byte) n m g = ends (SeenChar cat byte) g refl
      by_glance (glances.Active byte) n m g = ends (SeenActive byte) g refl
      by_glance glances.Word n m g = ends (Word word) g refl
      by_glance glances.Par n m g = ends Par g refl
      by_glance glances.LineEnd n m g = n refl
      by_glance glances.Invalid n m g = invalid (sight cats source.eye.state source.eye.rest) _ g.0 fin
      by_glance glances.OutOfMemory n m g = m refl

  -- what is glanced at, where a step is left
  pub glance_does : (glance : Glance) (word : List ℕ) (result : Result Sight Stop) (s : Looking)
      → (glance ≡ glances.LineEnd → ⊥) → is_spent budget ≡ false → Glimpses cats source.eye glance word after
      → Does result s (glanced glance word (looking (with_eye after source) names budget))
      → Does result s (next_sight cats endline (looking source names budget))
  glance_does glance word result s n unspent g d = by_glance glance n g d
    where
      P : Did Looking Sight → Type 0
      P m = Does result s m

      seen_does : (seen : Seen) → next_seen cats source.eye ≡ Ok (seen, after)
          → by_seen endline (next_sight cats endline) (looking source names budget) (Ok (seen, after)) ≡ taken seen after (looking source names budget)
          → next_sight cats endline (looking source names budget) ≡ as_token seen (looking (with_eye after source) names (after_step budget))
      seen_does seen e by =
          next_sight-step cats endline (looking source names budget)
          ∙ ap (by_seen endline (next_sight cats endline) (looking source names budget)) e ∙ by ∙ (rw unspent refl)

      free : (r : Result Sight Stop) (m : Did Looking Sight) → Does r s (Err (OutOfMemory, looking (with_eye after source) names budget)) → Does r s m
      free (Ok v) m d = cc
      free (Err (Trouble kind)) m d = let wrong = ap end_of d in cc
      free (Err (Capacity which)) m d = let wrong = ap end_of d in cc
      free (Err Spent) m d = let wrong = ap end_of d in cc
      free (Err ReadFault) m d = let wrong = ap end_of d in cc
      free (Err WriteFault) m d = let wrong = ap end_of d in cc
      free (Err OutOfMemory) m d = tt

      by_glance : (gl : Glance) → (gl ≡ glances.LineEnd → ⊥) → Glimpses cats source.eye gl word after
          → Does result s (glanced gl word (looking (with_eye after source) names budget))
          → Does result s (next_sight cats endline (looking source names budget))
      by_glance (glances.Char cat byte) n g d = subst P (sym (seen_does (SeenChar cat byte) g refl)) d
      by_glance (glances.Active byte) n g d = subst P (sym (seen_does (SeenActive byte) g refl)) d
      by_glance glances.Word n g d = subst P (sym (seen_does (Word word) g refl)) d
      by_glance glances.Par n g d = subst P (sym (seen_does Par g refl)) d
      by_glance glances.LineEnd n g d = absurd (n refl)
      by_glance glances.OutOfMemory n g d = free result _ d
      by_glance glances.Invalid n g d =
          let Q : Outlook → Type 0 = λ eye. Does result s (glanced glances.Invalid word (looking (with_eye eye source) names budget)) in
          subst P (sym (next_sight-step cats endline (looking source names budget)
          ∙ ap (by_seen endline (next_sight cats endline) (looking source names budget)) g.0 ∙ (rw unspent refl)))
          (subst Q g.1 d)

  -- the same behind the first test
  pub glance_gives : (glance : Glance) (word : List ℕ) (result : Result Sight Stop) (s : Looking)
      → (glance ≡ glances.LineEnd → ⊥) → (glance ≡ glances.OutOfMemory → ⊥) → is_unpaid cats source.eye budget ≡ false
      → Glimpses cats source.eye glance word after
      → (is_spent budget ≡ false → Does result s (glanced glance word (looking (with_eye after source) names budget)))
      → Does result s (next_sight cats endline (looking source names budget))
  glance_gives glance word result s n m paid g d = by_spent (is_spent budget) refl
    where
      finished : (f : Bool) → (true && not f) ≡ false → f ≡ true
      finished true h = refl
      finished false h = absurd (false≢true (sym h))

      by_spent : (b : Bool) → is_spent budget ≡ b → Does result s (next_sight cats endline (looking source names budget))
      by_spent true e =
          let tested : (true && not (is_line_finished cats source.eye)) ≡ false =
          ap (λ (b : Bool). b && not (is_line_finished cats source.eye)) (sym e) ∙ paid in
          absurd (glance_unspent glance word n m g (finished (is_line_finished cats source.eye) tested))
      by_spent false e = glance_does glance word result s n e g (d e)

  -- the first test
  pub unpaid_first : is_unpaid cats source.eye budget ≡ true
      → next_sight cats endline (looking source names budget) ≡ Err (Spent, looking source names budget)
  unpaid_first h = by_tests (is_spent budget) (is_line_finished cats source.eye) refl refl h
    where
      by_tests : (b f : Bool) → is_spent budget ≡ b → is_line_finished cats source.eye ≡ f → (b && not f) ≡ true
          → next_sight cats endline (looking source names budget) ≡ Err (Spent, looking source names budget)
      by_tests true true e k h = absurd (false≢true h)
      by_tests true false e k h = spent_first e k
      by_tests false f e k h = absurd (false≢true h)
