-- How the levels and sources of the code stand for the flat list.
use Rattle.std.specs.Prelude.{◌≡◌, ℕ, ◌+◌, ◌*◌, Bool, true, false, List, [], ◌∷◌, ◌++◌, length, nat_lt, drop, map, reverse, Option, Some, None, if◌then◌else◌}
use Rattle.tokens.specs.declared.token.Token.{Token}
use Rattle.tokens.specs.declared.token.Token.TheVariants.{Char, Active, Name, Arg, Frozen}
use Rattle.pending.specs.declared.level.Level.{Level}
use Rattle.pending.specs.declared.level.State.{State}
use Rattle.pending.specs.declared.level.State.TheVariants.{Ready as ReadyState, Argument, Source as SourceState, Used}
use Rattle.pending.specs.declared.settle.Front.{Front}
use Rattle.pending.specs.declared.settle.Front.TheVariants.{Ready as ReadyFront, Source as SourceFront}
use Rattle.pending.specs.declared.level.Level.TheVariants.{List as ListLevel, Body, Back, Source as SourceLevel}
use Rattle.pending.specs.declared.source.Source.{Source}
use Rattle.pending.specs.declared.waiting.Waiting.{Waiting}
use Rattle.pending.specs.Pending.{Item, Ready, From, fresh, filled}

-- a level in front of others, with the sources that are left, the innermost first
abbrev pub joined : List Level → List Source → List Item
joined [] sources = map (λ source. From source) sources
joined (ListLevel tokens at ∷ levels) sources = map fresh (drop at tokens) ++ joined levels sources
joined (Body body arguments at ∷ levels) sources =
    map fresh (filled arguments.items (drop at body)) ++ joined levels sources
joined (Back waiting ∷ levels) sources = Ready waiting ∷ joined levels sources
joined (SourceLevel ∷ levels) [] = []
joined (SourceLevel ∷ levels) (source ∷ sources) = From source ∷ joined levels sources

-- a token that was put back in front of all
abbrev pub behind_front : Option Waiting → List Item → List Item
behind_front None items = items
behind_front (Some waiting) items = Ready waiting ∷ items

-- the sources, the innermost first; outside it there is none
abbrev pub all_sources : Option Source → List Source → List Source
all_sources None outer = []
all_sources (Some source) outer = source ∷ reverse outer

-- the flat list
abbrev pub flat : Option Waiting → Level → List Level → Option Source → List Source → List Item
flat front top below source outer = behind_front front (joined (top ∷ reverse below) (all_sources source outer))

-- ---- one level

abbrev pub new_token : Token → Waiting
new_token token = record { token = token; noexpand = false; paid = false }

abbrev pub list_state : List Token → State
list_state [] = Used
list_state (token ∷ tokens) = ReadyState (new_token token)

abbrev pub body_state : List Token → State
body_state [] = Used
body_state (Char cat byte ∷ tokens) = ReadyState (new_token (Char cat byte))
body_state (Active byte ∷ tokens) = ReadyState (new_token (Active byte))
body_state (Name id ∷ tokens) = ReadyState (new_token (Name id))
body_state (Arg number ∷ tokens) = Argument number
body_state (Frozen number ∷ tokens) = ReadyState (new_token (Frozen number))

-- what stands in front of a level
abbrev pub state_of : Level → State
state_of (ListLevel tokens at) = list_state (drop at tokens)
state_of (Body body arguments at) = body_state (drop at body)
state_of (Back waiting) = ReadyState waiting
state_of SourceLevel = SourceState

abbrev pub next_index : ℕ → List Token → ℕ
next_index at tokens = if nat_lt at (length tokens) then at + 1 else at

-- a level without what stands in front of it
abbrev pub passed : Level → Level
passed (ListLevel tokens at) = ListLevel tokens (next_index at tokens)
passed (Body body arguments at) = Body body arguments (next_index at body)
passed (Back waiting) = ListLevel [] 0
passed SourceLevel = ListLevel [] 0

-- how much there is to do until a token or a source stands in front
abbrev pub weight : Level → ℕ
weight (ListLevel tokens at) = 1
weight (Body body arguments at) = 1 + 2 * length (drop at body)
weight (Back waiting) = 1
weight SourceLevel = 1

abbrev pub weight_of : List Level → ℕ
weight_of [] = 0
weight_of (level ∷ levels) = weight level + weight_of levels

-- levels that stand for what others do behind a token that was put back in front of them
abbrev pub StandBehind : Option Waiting → List Level → List Level → Type 0
StandBehind front before after = (sources : List Source) → joined after sources ≡ behind_front front (joined before sources)

-- two stacks of levels stand for the same list
abbrev pub SameItems : List Level → List Level → Type 0
SameItems before after = (sources : List Source) → joined after sources ≡ joined before sources

-- a source is next: its mark stands in front, or no level is left
abbrev pub IsAtSource : State → List Level → Type 0
IsAtSource (ReadyState waiting) below = ⊥
IsAtSource (Argument number) below = ⊥
IsAtSource SourceState below = Unit {0}
IsAtSource Used [] = Unit {0}
IsAtSource Used (level ∷ below) = ⊥

-- what was found in front of the levels
abbrev pub IsFront : Front → Level → List Level → Type 0
IsFront (ReadyFront waiting) top below = state_of top ≡ ReadyState waiting
IsFront SourceFront top below = IsAtSource (state_of top) below
