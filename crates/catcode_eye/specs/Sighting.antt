-- Sights by their places in a line.
use Rattle.std.specs.Prelude.{◌≡◌, ℕ, Option, Some, None, List, ◌∷◌, drop, Result, Ok, Err}
use Rattle.tokens.specs.declared.kind.Kind.TheVariants.{InvalidChar}
use Rattle.tokens.specs.declared.stop.Stop.{Stop}
use Rattle.tokens.specs.declared.stop.Stop.TheVariants.{Trouble}
use Rattle.catcode_eye.specs.declared.name.Place.{Place}
use Rattle.catcode_eye.specs.declared.seen.Seen.{Seen}
use Rattle.catcode_eye.specs.declared.seen.Seen.TheVariants.{Char as SeenChar, Active as SeenActive, Word as SeenWord, Par as SeenPar, LineEnd as SeenLineEnd}
use Rattle.catcode_eye.specs.declared.seen.Glance.{Glance}
use Rattle.catcode_eye.specs.declared.seen.Glance.TheVariants.{Char, Active, Word, Par, LineEnd, Invalid, OutOfMemory}
use Rattle.catcode_eye.specs.declared.seen.State.{State}
use Rattle.catcode_eye.specs.Seen.{Sight}

-- a rest with a byte in front of it, if there is one
abbrev pub onto_head : Option ℕ → List ℕ → List ℕ
onto_head None rest = rest
onto_head (Some byte) rest = byte ∷ rest

-- the rest of a line at a place
abbrev pub rest_at : List ℕ → Place → List ℕ
rest_at line place = onto_head place.head (drop place.next line)

-- what is meant is this thing, with the rest and the state behind it
abbrev pub Means : Result Sight Stop → Seen → List ℕ → State → Type 0
Means meant seen rest state = meant ≡ Ok (record { seen = seen; rest = rest; state = state })

-- a glance tells what is meant, with the rest and the state behind it; a refusal leaves `rest` and `state`
abbrev pub Shows : Result Sight Stop → List ℕ → State → Glance → List ℕ → List ℕ → State → Type 0
Shows meant rest state (Char cat byte) name rest' state' = Means meant (SeenChar cat byte) rest' state'
Shows meant rest state (Active byte) name rest' state' = Means meant (SeenActive byte) rest' state'
Shows meant rest state Word name rest' state' = Means meant (SeenWord name) rest' state'
Shows meant rest state Par name rest' state' = Means meant SeenPar rest' state'
Shows meant rest state LineEnd name rest' state' = Means meant SeenLineEnd rest' state'
Shows meant rest state Invalid name rest' state' = (meant ≡ Err (Trouble InvalidChar)) × (rest' ≡ rest) × (state' ≡ state)
Shows meant rest state OutOfMemory name rest' state' = (rest' ≡ rest) × (state' ≡ state)
