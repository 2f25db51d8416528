-- Something that is done again and again until it says that it is enough. What is done leaves less work each time
-- that it asks for more, so that it comes to an end; that it does is said by the code, path by path, and not by a law
-- of the definitions.
use Rattle.std.specs.Prelude.{ℕ, Bool, true, false, Ok, Err}
use Rattle.std.proofs.Common.{zero, suc}
use Rattle.tokens.specs.declared.stop.Stop.TheVariants.{Spent}
use Rattle.asking.specs.Meaning.{Meant, still, ◌>>=◌}

-- what follows one time: the next time, or enough
abbrev pub go_on : {S X : Type 0} → (X → S → Meant S X) → (Bool × X) × S → Meant S X
go_on further ((true, x), s) = further x s
go_on further ((false, x), s) = still (Ok (x, s))

-- at most so many times. What grows stands in the value that is handed on
unfoldable pub at_most : {S X : Type 0} → (X → S → Meant S (Bool × X)) → ℕ → X → S → Meant S X
at_most once zero x s = still (Err (Spent, s))
at_most once (suc times) x s = once x s >>= go_on (at_most once times)

-- until it is enough: so many times suffice where each time leaves less work
abbrev pub rounds : {S X : Type 0} → (S → ℕ) → (X → S → Meant S (Bool × X)) → X → S → Meant S X
rounds work once x s = at_most once (suc (work s)) x s
