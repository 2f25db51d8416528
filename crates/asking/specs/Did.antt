-- How what a command does is said that asks for no file: as a function from the state before it to a value
-- and the state behind it, or to an end of the run and the state that is left then.
use Rattle.std.specs.Prelude.{◌≡◌, Result, Ok, Err}
use Rattle.tokens.specs.declared.stop.Stop.{Stop}
use Rattle.tokens.specs.declared.stop.Stop.TheVariants.{Trouble, Capacity, Spent, ReadFault, WriteFault, OutOfMemory}

-- a value with the state behind it, or an end of the run with the state that is left
abbrev pub Did : Type 0 → Type 0 → Type 0
Did S A = Result (A × S) (Stop × S)

-- one thing after another: an end is the end of both
infixl 10 ◌>>=◌
abbrev pub ◌>>=◌ : {S A B : Type 0} → Did S A → (A × S → Did S B) → Did S B
(Ok done) >>= further = further done
(Err ended) >>= further = Err ended

-- an end that a call answered is the end that the definition gives. Memory may run out anywhere; no read and no
-- write fails where nothing is asked for
abbrev pub Ended : {S A : Type 0} → Stop → S → Did S A → Type 0
Ended (Trouble kind) state meant = meant ≡ Err (Trouble kind, state)
Ended (Capacity cap) state meant = meant ≡ Err (Capacity cap, state)
Ended Spent state meant = meant ≡ Err (Spent, state)
Ended ReadFault state meant = ⊥
Ended WriteFault state meant = ⊥
Ended OutOfMemory state meant = Unit {0}

-- a call's answer, seen by `view`, and the state that it left, against what the definition gives
abbrev pub DoesBy : {S A B : Type 0} → (B → A) → Result B Stop → S → Did S A → Type 0
DoesBy view (Ok value) state meant = meant ≡ Ok (view value, state)
DoesBy view (Err stop) state meant = Ended stop state meant

abbrev pub Does : {S A : Type 0} → Result A Stop → S → Did S A → Type 0
Does result state meant = DoesBy (λ value. value) result state meant

-- the same with something kept beside the state
abbrev pub lifted : {S T A : Type 0} → (S → T) → Did S A → Did T A
lifted beside (Ok (value, s)) = Ok (value, beside s)
lifted beside (Err (stop, s)) = Err (stop, beside s)

-- what was kept beside the state is the value in the end
abbrev pub lowered : {S T A : Type 0} → (T → A) → (T → S) → Did T (Unit {0}) → Did S A
lowered value state (Ok (done, t)) = Ok (value t, state t)
lowered value state (Err (stop, t)) = Err (stop, state t)
