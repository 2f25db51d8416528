-- How what a definition gives goes together with want of memory, said once for every call that may
-- answer a `Stop`. A definition is a total function whose answer, a `Result A Stop`, knows no want of
-- memory. A call may answer `OutOfMemory` whatever the definition gives, and else answers just that:
--
--     ensures gives { IfOk result (λ value. Gives (meaning_of ..) value) }
--     ensures ends { IfErr result (λ stop. Ends (meaning_of ..) stop) }
use Rattle.std.specs.Prelude.{◌≡◌, Result, Ok, Err}
use Rattle.std.proofs.Common.{◌∙◌, ap}
use Rattle.tokens.specs.declared.stop.Stop.{Stop}
use Rattle.tokens.specs.declared.stop.Stop.TheVariants.{Trouble, Capacity, Spent, ReadFault, WriteFault, OutOfMemory}

-- the call ended with a stop of which P holds, or without memory
abbrev pub EndsAs : (Stop → Type 0) → Stop → Type 0
EndsAs P (Trouble kind) = P (Trouble kind)
EndsAs P (Capacity cap) = P (Capacity cap)
EndsAs P Spent = P Spent
EndsAs P ReadFault = P ReadFault
EndsAs P WriteFault = P WriteFault
EndsAs P OutOfMemory = Unit {0}

-- the call ended as the definition says, or without memory
abbrev pub Ends : {A : Type 0} → Result A Stop → Stop → Type 0
Ends meant stop = EndsAs (λ s. meant ≡ Err s) stop

-- the call gave what the definition gives
abbrev pub Gives : {A : Type 0} → Result A Stop → A → Type 0
Gives meant value = meant ≡ Ok value

-- the call gave what, seen by `view`, the definition gives
abbrev pub GivesBy : {A B : Type 0} → (B → A) → Result A Stop → B → Type 0
GivesBy view meant value = meant ≡ Ok (view value)

-- the whole answer of a call, seen by `view`, against what the definition gives
abbrev pub AnswersBy : {A B : Type 0} → (B → A) → Result A Stop → Result B Stop → Type 0
AnswersBy view meant (Ok value) = GivesBy view meant value
AnswersBy view meant (Err stop) = Ends meant stop

-- the definition that goes on with what another gave
abbrev pub and_then : {A B : Type 0} → Result A Stop → (A → Result B Stop) → Result B Stop
and_then (Ok value) further = further value
and_then (Err stop) further = Err stop

-- an end of which P holds is an end with P
pub EndsAs-of : (P : Stop → Type 0) (stop : Stop) → P stop → EndsAs P stop
EndsAs-of P (Trouble kind) h = h
EndsAs-of P (Capacity cap) h = h
EndsAs-of P Spent h = h
EndsAs-of P ReadFault h = h
EndsAs-of P WriteFault h = h
EndsAs-of P OutOfMemory h = tt

-- an end with P is one with Q, where Q holds of each stop of which P does
pub EndsAs-map : (P Q : Stop → Type 0) → ((s : Stop) → P s → Q s) → (stop : Stop) → EndsAs P stop → EndsAs Q stop
EndsAs-map P Q f (Trouble kind) h = f (Trouble kind) h
EndsAs-map P Q f (Capacity cap) h = f (Capacity cap) h
EndsAs-map P Q f Spent h = f Spent h
EndsAs-map P Q f ReadFault h = f ReadFault h
EndsAs-map P Q f WriteFault h = f WriteFault h
EndsAs-map P Q f OutOfMemory h = tt

-- where the definition ends, the call ends so
pub Ends-of : {A : Type 0} (meant : Result A Stop) (stop : Stop) → meant ≡ Err stop → Ends meant stop
Ends-of meant stop h = EndsAs-of (λ s. meant ≡ Err s) stop h

-- an end is handed on: where a part ends, the whole ends so
pub Ends-handed_on : {A B : Type 0} (meant : Result A Stop) (further : A → Result B Stop) (stop : Stop)
    → Ends meant stop → Ends (and_then meant further) stop
Ends-handed_on meant further stop h =
    EndsAs-map (λ s. meant ≡ Err s) (λ s. and_then meant further ≡ Err s) (λ s e. ap (λ m. and_then m further) e) stop h

-- an end comes from an end: where the first part gave a value, the whole ends as what follows it
pub Ends-after : {A B : Type 0} (meant : Result A Stop) (further : A → Result B Stop) (value : A) (stop : Stop)
    → Gives meant value → Ends (further value) stop → Ends (and_then meant further) stop
Ends-after meant further value stop g h =
    EndsAs-map (λ s. further value ≡ Err s) (λ s. and_then meant further ≡ Err s)
    (λ s e. ap (λ m. and_then m further) g ∙ e) stop h

-- values follow one another
pub Gives-after : {A B : Type 0} (meant : Result A Stop) (further : A → Result B Stop) (value : A) (last : B)
    → Gives meant value → Gives (further value) last → Gives (and_then meant further) last
Gives-after meant further value last g h = ap (λ m. and_then m further) g ∙ h
