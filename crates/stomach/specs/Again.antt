-- Something that is done again and again until it says that it is enough, where nothing is asked for. What grows
-- on the way stands beside the state. Each time that asks for more leaves less work, so that it comes to an end.
use Rattle.std.specs.Prelude.{◌≡◌, ℕ, ◌<◌, ◌≤◌, Bool, true, false, Ok, Err, refl}
use Rattle.std.proofs.Common.{zero, suc, ◌∙◌, ap, sym, arith}
use Rattle.tokens.specs.declared.stop.Stop.{Stop}
use Rattle.tokens.specs.declared.stop.Stop.TheVariants.{Trouble, Capacity, Spent, ReadFault, WriteFault, OutOfMemory}
use Rattle.asking.specs.Did.{Did, ◌>>=◌, Ended}

-- what follows one time: the next time, or enough
abbrev pub go_on : {S X : Type 0} → (X → S → Did S X) → (Bool × X) × S → Did S X
go_on further ((true, x), s) = further x s
go_on further ((false, x), s) = Ok (x, s)

-- at most so many times
unfoldable pub at_most : {S X : Type 0} → (X → S → Did S (Bool × X)) → ℕ → X → S → Did S X
at_most once zero x s = Err (Spent, s)
at_most once (suc times) x s = once x s >>= go_on (at_most once times)

-- until it is enough. The work falls at each time that asks for more, so these times suffice
unfoldable pub again : {S X : Type 0} → (S → ℕ) → (X → S → Did S (Bool × X)) → X → S → Did S X
again work once x s = at_most once (suc (work s)) x s

-- what is done again and again from the start comes to what it comes to from here, where no more than this many
-- times are left
pub record Leads {S X : Type 0} (work : S → ℕ) (once : X → S → Did S (Bool × X)) (start : X) (first : S) (x : X) (s : S) : Type 0 where
  pub less : work s ≤ work first
  pub times : ℕ
  pub enough : work s ≤ times
  pub from : at_most once (suc times) x s ≡ again work once start first

-- ---- laws

-- an end that leads to an end
pub Ended-by : {S T A B : Type 0} (stop : Stop) (s : S) (t : T) (part : Did S A) (whole : Did T B)
    → (part ≡ Err (stop, s) → whole ≡ Err (stop, t)) → Ended stop s part → Ended stop t whole
Ended-by (Trouble kind) s t part whole f e = f e
Ended-by (Capacity cap) s t part whole f e = f e
Ended-by Spent s t part whole f e = f e
Ended-by ReadFault s t part whole f e = e
Ended-by WriteFault s t part whole f e = e
Ended-by OutOfMemory s t part whole f e = tt

-- all that these laws speak of is read off the record
module _ {S X : Type 0} {work : S → ℕ} {once : X → S → Did S (Bool × X)} {start : X} {first : S} where
  pub leads-start : Leads work once start first start first
  unfolding again
  leads-start = record { less = omega arith; times = work first; enough = omega arith; from = refl }

  module _ {x : X} {s : S} where
    -- once more
    pub leads-more : (y : X) (t : S) → Leads work once start first x s → once x s ≡ Ok ((true, y), t) → work t < work s → Leads work once start first y t
    unfolding at_most
    leads-more y t l e less = at l.times l.enough l.from
      where
        at : (times : ℕ) → work s ≤ times → at_most once (suc times) x s ≡ again work once start first → Leads work once start first y t
        at zero enough from = absurd (omega (arith, enough, less))
        at (suc times) enough from = record {
          less = omega (arith, l.less, less);
          times = times;
          enough = omega (arith, enough, less);
          from = ap (λ d. d >>= go_on (at_most once (suc times))) (sym e) ∙ from;
        }

    -- enough
    pub leads-enough : (y : X) (t : S) → Leads work once start first x s → once x s ≡ Ok ((false, y), t) → again work once start first ≡ Ok (y, t)
    unfolding at_most
    leads-enough y t l e = sym l.from ∙ ap (λ d. d >>= go_on (at_most once l.times)) e

    -- the end of the run
    pub leads-end : (t : S) (stop : Stop) → Leads work once start first x s → Ended stop t (once x s) → Ended stop t (again work once start first)
    unfolding at_most
    leads-end t stop l e =
        Ended-by stop t t (once x s) (again work once start first) (λ h. sym l.from ∙ ap (λ d. d >>= go_on (at_most once l.times)) h) e

pub ruleset loops = (leads-start, leads-more, leads-enough, leads-end)
