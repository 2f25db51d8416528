-- Lists of calls on the environments with their answers, of which some may be refusals: the environments are those
-- that the accepted calls make, one after another, and each answer is what the definitions tell of them.
use Rattle.std.specs.Prelude.{◌≡◌, ◌⊎◌, ◌+◌, ◌<◌, ◌≤◌, Bool, false, List, [], ◌∷◌, ◌++◌, length, Option, None, Some, IsSome, IsTrue, Result, Ok, Err}
use Rattle.std.specs.List.{list_any}
use Rattle.tokens.specs.declared.stop.Stop.{Stop}
use Rattle.tokens.specs.declared.stop.Stop.TheVariants.{Capacity, OutOfMemory}
use Rattle.tokens.specs.declared.cap.Cap.TheVariants.{Groups}
use Rattle.save_groups.specs.declared.call.Call.{Call}
use Rattle.save_groups.specs.declared.call.Call.TheVariants.{Assign, Enter, Leave, AfterGroup, SetBoxSize, SwapBox}
use Rattle.save_groups.specs.declared.call.Told.{Told}
use Rattle.save_groups.specs.declared.call.Told.TheVariants.{Nothing, Group, Resized, Taken}
use Rattle.tokens.specs.declared.meaning.RegKind.TheVariants.{Box}
use Rattle.save_groups.specs.declared.key.Key.{Key}
use Rattle.save_groups.specs.declared.key.Key.TheVariants.{Register}
use Rattle.save_groups.specs.declared.key.Scope.{Scope}
use Rattle.save_groups.specs.declared.key.Scope.TheVariants.{Global}
use Rattle.save_groups.specs.declared.value.Value.{Value}
use Rattle.save_groups.specs.declared.value.Value.TheVariants as value
use Rattle.save_groups.specs.declared.entry.Entry.{Entry}
use Rattle.save_groups.specs.Keys.{same_key, is_key}
use Rattle.save_groups.specs.Values.{fits, is_in_mode}
use Rattle.save_groups.specs.InPlace.{in_place, box_of, has_box, can_swap, resized}
use Rattle.save_groups.specs.Environments.{Environment, OpenGroup, Copies, environments, start_environment, beginning, entered, left, innermost, told_of, with_after}
use Rattle.save_groups.specs.Assignment.{assigned}
use Rattle.save_groups.specs.Standing.{Store, copies_of}

-- what a caller has to see to
abbrev pub IsAllowed : Call → Copies → Type 0
IsAllowed (Assign key value scope) c =
    IsTrue (is_key c.extended key) × IsTrue (fits key value) × IsTrue (is_in_mode c.extended value)
IsAllowed (Enter kind line) c = Unit {0}
IsAllowed Leave c = IsSome (innermost c)
IsAllowed (AfterGroup token) c = IsSome (innermost c)
IsAllowed (SetBoxSize number part size) c = IsTrue (is_key c.extended (Register Box number)) × part < 3
IsAllowed (SwapBox number content) c = IsTrue (is_key c.extended (Register Box number)) × IsTrue (can_swap number content c.last)

-- what a call that isn't refused makes of the environments
abbrev pub done : Call → Copies → Copies
done (Assign key value scope) c = assigned key value scope c
done (Enter kind line) c = entered kind line c
done Leave c = left c
done (AfterGroup token) c = with_after token c
done (SetBoxSize number part size) c = resized number part size c
done (SwapBox number content) c = in_place (Register Box number) (value.Boxed content) c

-- and what it tells
abbrev pub told_left : Option OpenGroup → Told
told_left None = Nothing
told_left (Some group) = Group (told_of group)

abbrev pub told : Call → Copies → Told
told (Assign key value scope) c = Nothing
told (Enter kind line) c = Nothing
told Leave c = told_left (innermost c)
told (AfterGroup token) c = Nothing
told (SetBoxSize number part size) c = Resized (has_box number c.last)
told (SwapBox number content) c = Taken (box_of number c.last)

-- where a call can be accepted: a group can begin where fewer than 255 are open
abbrev pub CanPass : Call → Copies → Type 0
CanPass (Assign key value scope) c = Unit {0}
CanPass (Enter kind line) c = length c.groups < 255
CanPass Leave c = Unit {0}
CanPass (AfterGroup token) c = Unit {0}
CanPass (SetBoxSize number part size) c = Unit {0}
CanPass (SwapBox number content) c = Unit {0}

-- how and where it can be refused: a group at the limit alone, leaving and changes in place never, the others for
-- want of memory
abbrev pub IsRefusal : Call → Stop → Copies → Type 0
IsRefusal (Assign key value scope) stop c = stop ≡ OutOfMemory
IsRefusal (Enter kind line) stop c = (stop ≡ Capacity Groups) × (255 ≤ length c.groups)
IsRefusal Leave stop c = ⊥
IsRefusal (AfterGroup token) stop c = stop ≡ OutOfMemory
IsRefusal (SetBoxSize number part size) stop c = ⊥
IsRefusal (SwapBox number content) stop c = ⊥

-- what is told is what the definitions say
abbrev pub IsExact : Call → Copies → Result Told Stop → Type 0
IsExact call c (Ok tells) = (tells ≡ told call c) × CanPass call c
IsExact call c (Err stop) = IsRefusal call stop c

-- a refused call changes nothing
abbrev pub attempted_by : Call → Result Told Stop → Copies → Copies
attempted_by call (Ok tells) c = done call c
attempted_by call (Err stop) c = c

-- what a call answers, with the environments before and behind it
abbrev pub Answers : Call → Copies → Result Told Stop → Copies → Type 0
Answers call old answer new = IsExact call old answer × (new ≡ attempted_by call answer old)

-- a call with its answer
pub record Attempt : Type 0 where
  pub call : Call
  pub answer : Result Told Stop

abbrev pub attempted : Attempt → Copies → Copies
attempted attempt c = attempted_by attempt.call attempt.answer c

abbrev pub after_attempts : List Attempt → Copies → Copies
after_attempts [] c = c
after_attempts (attempt ∷ attempts) c = after_attempts attempts (attempted attempt c)

-- from one store to another by these calls, which answered so: `make` shows that the calls of an `Env` do
abbrev pub ComesTo : Store → List Attempt → Store → Type 0
ComesTo s [] t = t ≡ s
ComesTo s (attempt ∷ attempts) t =
    (next : Store) × Answers attempt.call (copies_of s) attempt.answer (copies_of next) × ComesTo next attempts t

-- every answer is what the definitions say of the environments that the calls before it made
abbrev pub AreExact : List Attempt → Copies → Type 0
AreExact [] c = Unit {0}
AreExact (attempt ∷ attempts) c = IsExact attempt.call c attempt.answer × AreExact attempts (attempted attempt c)

-- whatever is called on new environments, whichever calls are refused: they are those of the definition, and so is
-- each answer
abbrev pub CallsLaw : Type 0
CallsLaw = (extended : Bool) (s t : Store) (attempts : List Attempt) → copies_of s ≡ beginning extended → ComesTo s attempts t
    → (copies_of t ≡ after_attempts attempts (beginning extended)) × AreExact attempts (beginning extended)

-- an assignment makes one save at most, and a global one none
abbrev pub SavesLaw : Type 0
SavesLaw = (key : Key) (value : Value) (scope : Scope) (c : Copies) →
    (length (assigned key value scope c).saves ≤ length c.saves + 1) × (scope ≡ Global → (assigned key value scope c).saves ≡ c.saves)

-- in each environment an entry belongs to its own group, or is what it is in the environment outside. So where its
-- level is that of an outer group, all environments from there on hold this very entry
abbrev pub IsOutside : Key → Entry Value → List Environment → Type 0
IsOutside key entry [] = ⊥
IsOutside key entry (env ∷ outer) = env key ≡ entry

abbrev pub AreNested : List Environment → Type 0
AreNested [] = Unit {0}
AreNested (env ∷ outer) = ((key : Key) → ((env key).level ≡ length outer + 1) ⊎ IsOutside key (env key) outer) × AreNested outer

-- whatever is called on new environments, they are nested so
abbrev pub LevelsLaw : Type 0
LevelsLaw = (extended : Bool) (attempts : List Attempt) → AreNested (environments (after_attempts attempts (beginning extended)))

-- the keys that a call gives a value
abbrev pub keys_of : Call → List Key
keys_of (Assign key value scope) = key ∷ []
keys_of (Enter kind line) = []
keys_of Leave = []
keys_of (AfterGroup token) = []
keys_of (SetBoxSize number part size) = Register Box number ∷ []
keys_of (SwapBox number content) = Register Box number ∷ []

abbrev pub given_by : Attempt → List Key
given_by attempt = keys_of attempt.call

-- those that some calls give one
abbrev pub given : List Attempt → List Key
given [] = []
given (attempt ∷ attempts) = given_by attempt ++ given attempts

-- all environments have an entry as it was at the start
abbrev pub AreFresh : Bool → Key → List Environment → Type 0
AreFresh extended key [] = Unit {0}
AreFresh extended key (env ∷ outer) = (env key ≡ start_environment extended key) × AreFresh extended key outer

-- an entry that no call gave a value is what it was at the start. So of each environment only finitely many entries
-- have to be known
abbrev pub GivenLaw : Type 0
GivenLaw = (extended : Bool) (attempts : List Attempt) (key : Key) → list_any (λ k. same_key k key) (given attempts) ≡ false
    → AreFresh extended key (environments (after_attempts attempts (beginning extended)))
