-- What holds of all calls that may ask, whatever they do.
use Rattle.std.specs.Prelude.{ℕ, ◌<◌, Bool, true, false, Result, Ok, Err}
use Rattle.tokens.specs.declared.stop.Stop.{Stop}
use Rattle.asking.specs.Leads.{Leads}
use Rattle.asking.specs.Loops.{rounds}
use Rattle.asking.specs.Meaning.{Meant, ◌>>=◌}
use Rattle.asking.specs.Seen.{Outside, Seen, DoesBeside}
use Rattle.asking.specs.Turns.{DoesTurns, OverLaw, ShownLaw}

-- one call behind another: what is said of one that went well, and of what follows it, is said of both; and an end is
-- the end of both
pub record SequenceLaw (S A B : Type 0) : Type 0 where
  pub behind : (o : Outside) (old mid new : Seen) (m : Meant S A) (further : A × S → Meant S B) (value : A) (s t : S) (result : Result B Stop)
      → DoesBeside o old mid (Ok value) s m → DoesBeside o mid new result t (further (value, s)) → DoesBeside o old new result t (m >>= further)
  pub ended : (o : Outside) (old new : Seen) (m : Meant S A) (further : A × S → Meant S B) (s : S) (stop : Stop)
      → DoesBeside {A = A} o old new (Err stop) s m → DoesBeside {A = B} o old new (Err stop) s (m >>= further)

-- a loop: its record stands at the start, and behind each time that asks for more and leaves less work. Where a time says
-- that it is enough, or ends the run, the loop does what its meaning says
pub record LoopLaw (S X : Type 0) : Type 0 where
  pub start : (o : Outside) (work : S → ℕ) (once : X → S → Meant S (Bool × X)) (old : Seen) (x : X) (s : S) → Leads o work once old old x s x s
  pub more : (o : Outside) (work : S → ℕ) (once : X → S → Meant S (Bool × X)) (old now new : Seen) (x₀ x y : X) (first s t : S)
      → Leads o work once old now x₀ first x s → DoesBeside o now new (Ok (true, y)) t (once x s) → work t < work s
      → Leads o work once old new x₀ first y t
  pub enough : (o : Outside) (work : S → ℕ) (once : X → S → Meant S (Bool × X)) (old now new : Seen) (x₀ x y : X) (first s t : S)
      → Leads o work once old now x₀ first x s → DoesBeside o now new (Ok (false, y)) t (once x s)
      → DoesBeside o old new (Ok y) t (rounds work once x₀ first)
  pub ended : (o : Outside) (work : S → ℕ) (once : X → S → Meant S (Bool × X)) (old now new : Seen) (x₀ x : X) (first s t : S) (stop : Stop)
      → Leads o work once old now x₀ first x s → DoesBeside {A = Bool × X} o now new (Err stop) t (once x s)
      → DoesBeside {A = X} o old new (Err stop) t (rounds work once x₀ first)

-- turns: none were made at the start, and one more may follow where the run goes on. Once the run is over, more turns mean
-- the same, and what some turns show is a beginning of what more turns show
pub record TurnsLaw (S : Type 0) : Type 0 where
  pub start : (o : Outside) (old : Seen) (once : S → Meant S Bool) (first : S) → DoesTurns o old old (Ok true) first once first
  pub next : (o : Outside) (old mid new : Seen) (result : Result Bool Stop) (once : S → Meant S Bool) (first s t : S)
      → DoesTurns o old mid (Ok true) s once first → DoesBeside o mid new result t (once s) → DoesTurns o old new result t once first
  pub over : (once : S → Meant S Bool) → OverLaw once
  pub shown : (once : S → Meant S Bool) → ShownLaw once
