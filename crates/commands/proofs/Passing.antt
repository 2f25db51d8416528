-- The loop over spaces: what finishing from here comes to, finishing from the start comes to.
use Rattle.std.specs.Prelude.{◌≡◌, refl, ℕ, Bool, true, false, Result, Ok, Err}
use Rattle.std.proofs.Common.{suc, subst}
use Rattle.tokens.specs.declared.stop.Stop.{Stop}
use Rattle.tokens.specs.declared.stop.Stop.TheVariants.{OutOfMemory}
use Rattle.asking.specs.Meaning.{Meant, ◌>>=◌}
use Rattle.asking.specs.Seen.{Outside, Seen, DoesBeside}
use Rattle.asking.specs.Asked.{cut_later, prefix_same}
use Rattle.asking.specs.Leads.{told, does_then, does_end, does_still}
use Rattle.gullet.specs.Expansion.{most_turns}
use Rattle.gullet.specs.State.{State}
use Rattle.commands.specs.Spaces.{pass_space, behind_space, pass_spaces, ignore_spaces}

-- so many looks more
pub record Passes (o : Outside) (old now : Seen) (first s : State) (left : ℕ) : Type 0 where
  pub from : (new : Seen) (result : Result (Unit {0}) Stop) (t : State) → DoesBeside o now new result t (pass_spaces o left s)
      → DoesBeside o old new result t (ignore_spaces o first)

abbrev pass_by : Outside → ℕ → State → Meant State (Unit {0})
pass_by o n s = pass_space o s >>= behind_space (pass_spaces o n)

-- what one look and what follows comes to, finishing from the start comes to
abbrev Looks : Outside → Seen → Seen → State → State → ℕ → Type 0
Looks o old now first s n = (new : Seen) (result : Result (Unit {0}) Stop) (t : State) → DoesBeside o now new result t (pass_by o n s)
    → DoesBeside o old new result t (ignore_spaces o first)

module _ {o : Outside} {old : Seen} {first : State} where
  pub passes_start : Passes o old old first first 18446744073709551615
  unfolding ignore_spaces most_turns
  passes_start = record { from = λ new result t h. h }

module _ {o : Outside} {old now : Seen} {first s : State} {left : ℕ} where
  look : (n : ℕ) → left ≡ suc n → Passes o old now first s left → Looks o old now first s n
  unfolding pass_spaces
  look n is w = let P : ℕ → Type 0 = λ k. Passes o old now first s k in (subst P is w).from

  -- a space was passed
  pub passes_space : (new : Seen) (t : State) (n : ℕ) → left ≡ suc n → Passes o old now first s left → DoesBeside o now new (Ok true) t (pass_space o s)
      → Passes o old new first t n
  passes_space new t n is w h = record {
    from = λ end result u g. look n is w end result u (does_then o now new (pass_space o s) (behind_space (pass_spaces o n)) end true t u result h g);
  }

  -- another token came next, or nothing
  pub passes_other : (new : Seen) (t : State) (n : ℕ) → left ≡ suc n → Passes o old now first s left → DoesBeside o now new (Ok false) t (pass_space o s)
      → DoesBeside {A = Unit {0}} o old new (Ok tt) t (ignore_spaces o first)
  passes_other new t n is w h =
      look n is w new (Ok tt) t
      (does_then o now new (pass_space o s) (behind_space (pass_spaces o n)) new false t t (Ok tt) h (does_still o new tt t))

  -- the same, told by a test
  pub passes_done : (new : Seen) (t : State) (b : Bool) (n : ℕ) → b ≡ false → left ≡ suc n → Passes o old now first s left → DoesBeside o now new (Ok b) t (pass_space o s)
      → DoesBeside {A = Unit {0}} o old new (Ok tt) t (ignore_spaces o first)
  passes_done new t true n is at w h = cc
  passes_done new t false n is at w h = passes_other new t n at w h

  pub passes_stop : (new : Seen) (t : State) (stop : Stop) (n : ℕ) → left ≡ suc n → Passes o old now first s left → DoesBeside {A = Bool} o now new (Err stop) t (pass_space o s)
      → DoesBeside {A = Unit {0}} o old new (Err stop) t (ignore_spaces o first)
  passes_stop new t stop n is w h = look n is w new (Err stop) t (does_end o now new (pass_space o s) (behind_space (pass_spaces o n)) t stop h)

  -- no look is left
  pub passes_out : (t : State) → Passes o old now first s left → DoesBeside {A = Unit {0}} o old now (Err OutOfMemory) t (ignore_spaces o first)
  passes_out t w =
      w.from now (Err OutOfMemory) t
      ((refl, refl, refl), told o _ (cut_later now.place.shown (pass_spaces o left s now.place).asks now.place (prefix_same now.place.shown)))

pub ruleset passing = (passes_start, passes_space, passes_other, passes_stop, passes_out)
