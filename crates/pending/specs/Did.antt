-- What a call that may end the run does to a state: a value with the state behind it, or an end of the run
-- with the state that is left. Want of memory alone is free.
use Rattle.std.specs.Prelude.{◌≡◌, Result, Ok, Err}
use Rattle.tokens.specs.declared.stop.Stop.{Stop}
use Rattle.tokens.specs.declared.stop.Stop.TheVariants.{Trouble, Capacity, Spent, ReadFault, WriteFault, OutOfMemory}

abbrev pub Did : Type 0 → Type 0 → Type 0
Did S A = Result (A × S) (Stop × S)

-- the call ended as the definition says, or without memory
abbrev pub Ended : {S A : Type 0} → Stop → S → Did S A → Type 0
Ended (Trouble kind) state meant = meant ≡ Err (Trouble kind, state)
Ended (Capacity cap) state meant = meant ≡ Err (Capacity cap, state)
Ended Spent state meant = meant ≡ Err (Spent, state)
Ended ReadFault state meant = meant ≡ Err (ReadFault, state)
Ended WriteFault state meant = meant ≡ Err (WriteFault, state)
Ended OutOfMemory state meant = Unit {0}

-- a call's answer and the state that it left are what the definition gives
abbrev pub Does : {S A : Type 0} → Result A Stop → S → Did S A → Type 0
Does (Ok value) state meant = meant ≡ Ok (value, state)
Does (Err stop) state meant = Ended stop state meant

-- what ends as the definition says has ended so
pub Ended-of : {S A : Type 0} (stop : Stop) (s : S) (meant : Did S A) → meant ≡ Err (stop, s) → Ended stop s meant
Ended-of (Trouble kind) s meant e = e
Ended-of (Capacity cap) s meant e = e
Ended-of Spent s meant e = e
Ended-of ReadFault s meant e = e
Ended-of WriteFault s meant e = e
Ended-of OutOfMemory s meant e = tt

-- an end that leads to an end
pub Ended-by : {S T A B : Type 0} (stop : Stop) (s : S) (t : T) (part : Did S A) (whole : Did T B)
    → (part ≡ Err (stop, s) → whole ≡ Err (stop, t)) → Ended stop s part → Ended stop t whole
Ended-by (Trouble kind) s t part whole f e = f e
Ended-by (Capacity cap) s t part whole f e = f e
Ended-by Spent s t part whole f e = f e
Ended-by ReadFault s t part whole f e = f e
Ended-by WriteFault s t part whole f e = f e
Ended-by OutOfMemory s t part whole f e = tt
