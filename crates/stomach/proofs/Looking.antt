-- How the tokens of a source follow from what the calls of its eye answer.
use Rattle.std.proofs.Common.{◌≡◌, ℕ, ℤ, true, false, List, Option, Result, Ok, Err, ap, ◌∙◌, sym, subst, refl}
use Rattle.std.specs.Prelude.{Bool, nat_lt, [], ◌∷◌, length, if◌then◌else◌}
use Rattle.tokens.specs.Budget.{Allowance, is_spent}
use Rattle.tokens.specs.Ends.{Ends}
use Rattle.tokens.specs.declared.cap.Cap.TheVariants.{Line}
use Rattle.tokens.specs.declared.stop.Stop.{Stop}
use Rattle.tokens.specs.declared.stop.Stop.TheVariants.{Trouble, Capacity, Spent, ReadFault, WriteFault, OutOfMemory}
use Rattle.tokens.specs.declared.token.Token.{Token}
use Rattle.catcode_eye.specs.declared.seen.Glance.{Glance}
use Rattle.catcode_eye.specs.declared.seen.Glance.TheVariants as glances
use Rattle.catcode_eye.specs.declared.seen.Seen.{Seen}
use Rattle.catcode_eye.specs.declared.seen.Seen.TheVariants.{LineEnd}
use Rattle.catcode_eye.specs.Glance.{Glimpses}
use Rattle.catcode_eye.specs.Outlook.{Outlook, next_seen, next_line, next_line_of, with_line}
use Rattle.asking.specs.Did.{Did, ◌>>=◌, Does, Ended}
use Rattle.stomach.specs.Take.{Looking, looking, line_by, line_taken, behind_line, by_seen, glanced, unpaid, EndsUnpaid, token_from, token_from-step}

-- ---- a line that is refused

-- it is refused for its length alone
refused_for : (endline : ℤ) (eye : Outlook) (stop : Stop) → next_line endline eye ≡ Err stop → stop ≡ Capacity Line
refused_for endline eye stop = at eye.unread
  where
    by : (line : List ℕ) (lines : List (List ℕ)) (b : Bool) → with_line endline line lines b ≡ Err stop → stop ≡ Capacity Line
    by line lines true e = cc
    by line lines false e = cc

    at : (lines : List (List ℕ)) → next_line_of endline eye lines ≡ Err stop → stop ≡ Capacity Line
    at [] e = cc
    at (line ∷ lines) e = by line lines (nat_lt 65535 (length line)) e

module _ (endline : ℤ) (eye after : Outlook) (names : List (List ℕ)) (budget : Allowance) where
  abbrev meant : Did Looking Bool
  meant = line_by (looking eye names budget) (next_line endline eye)

  abbrev IsEnd : Stop → Type 0
  IsEnd stop = Ended stop (looking after names budget) meant

  -- it ends what wanted it, for want of a step where none is left
  pub line_refused : (stop result : Stop) → Ends (next_line endline eye) stop → EndsUnpaid budget stop result → after ≡ eye
      → Ended result (looking after names budget) (line_taken endline (looking eye names budget))
  unfolding line_taken
  line_refused stop result ends un same = at stop ends un
    where
      by : (spent : Bool) → result ≡ (if spent then Spent else Capacity Line)
          → meant ≡ Err ((if spent then Spent else Capacity Line), looking after names budget) → IsEnd result
      by true r m = subst IsEnd (sym r) m
      by false r m = subst IsEnd (sym r) m

      whole : (s : Stop) → next_line endline eye ≡ Err s → result ≡ unpaid budget s → IsEnd result
      whole s e u =
          let is : s ≡ Capacity Line = refused_for endline eye s e in
          let long : next_line endline eye ≡ Err (Capacity Line) = cc in
          by (is_spent budget) (u ∙ ap (unpaid budget) is)
          (ap (line_by (looking eye names budget)) long ∙ ap (λ (o : Outlook). Err (unpaid budget (Capacity Line), looking o names budget)) (sym same))

      at : (s : Stop) → Ends (next_line endline eye) s → EndsUnpaid budget s result → IsEnd result
      at (Trouble kind) e u = whole (Trouble kind) e u
      at (Capacity cap) e u = whole (Capacity cap) e u
      at Spent e u = whole Spent e u
      at ReadFault e u = whole ReadFault e u
      at WriteFault e u = whole WriteFault e u
      at OutOfMemory e u = subst IsEnd (sym u) tt

-- ---- the tokens of a source

module _ (cats : List ℕ) (endline : ℤ) (eye after : Outlook) (names : List (List ℕ)) (budget : Allowance) where
  -- what is seen decides
  by_sight : (seen : Result (Seen × Outlook) Stop) → next_seen cats eye ≡ seen
      → token_from cats endline (looking eye names budget) ≡ by_seen endline (token_from cats endline) (looking eye names budget) seen
  by_sight seen e =
      token_from-step cats endline (looking eye names budget) ∙ ap (by_seen endline (token_from cats endline) (looking eye names budget)) e

  -- at a line's end the next line is taken
  pub by_line : (line : Did Looking Bool) → next_seen cats eye ≡ Ok (LineEnd, after) → line_taken endline (looking after names budget) ≡ line
      → token_from cats endline (looking eye names budget) ≡ (line >>= behind_line (token_from cats endline))
  by_line line e l = by_sight (Ok (LineEnd, after)) e ∙ ap (λ (d : Did Looking Bool). d >>= behind_line (token_from cats endline)) l

  -- anything else gives a token, or ends the run
  pub glance_does : (glance : Glance) (word : List ℕ) (result : Result (Option Token) Stop) (s : Looking)
      → (glance ≡ glances.LineEnd → ⊥) → (glance ≡ glances.OutOfMemory → result ≡ Err OutOfMemory) → Glimpses cats eye glance word after
      → Does result s (glanced glance word (looking after names budget))
      → Does result s (token_from cats endline (looking eye names budget))
  glance_does glance word result s = at glance
    where
      by : (seen : Result (Seen × Outlook) Stop) → next_seen cats eye ≡ seen
          → Does result s (by_seen endline (token_from cats endline) (looking eye names budget) seen)
          → Does result s (token_from cats endline (looking eye names budget))
      by seen e d = let P : Did Looking (Option Token) → Type 0 = λ m. Does result s m in subst P (sym (by_sight seen e)) d

      at : (g : Glance) → (g ≡ glances.LineEnd → ⊥) → (g ≡ glances.OutOfMemory → result ≡ Err OutOfMemory) → Glimpses cats eye g word after → Does result s (glanced g word (looking after names budget))
          → Does result s (token_from cats endline (looking eye names budget))
      at (glances.Char cat byte) n m e d = by _ e d
      at (glances.Active byte) n m e d = by _ e d
      at glances.Word n m e d = by _ e d
      at glances.Par n m e d = by _ e d
      at glances.LineEnd n m e d = absurd (n refl)
      at glances.Invalid n m e d =
          by _ e.0 (let P : Outlook → Type 0 = λ o. Does result s (glanced glances.Invalid word (looking o names budget)) in subst P e.1 d)
      at glances.OutOfMemory n m e d =
          let P : Result (Option Token) Stop → Type 0 = λ r. Does r s (token_from cats endline (looking eye names budget)) in subst P (sym (m refl)) tt

-- what comes from here comes from the start, where finishing from here comes to the same
pub from_start : (result : Result (Option Token) Stop) (s : Looking) (cats : List ℕ) (z endline : ℤ) (here : Did Looking (Option Token)) (start : Looking)
    → z ≡ endline → here ≡ token_from cats z start → Does result s here → Does result s (token_from cats endline start)
from_start result s cats z endline here start w same h =
    let P : Did Looking (Option Token) → Type 0 = λ m. Does result s m in
    subst P (same ∙ ap (λ (e : ℤ). token_from cats e start) w) h
