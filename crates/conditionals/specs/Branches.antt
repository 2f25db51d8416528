-- The text behind a condition, seen whole (The TeXbook, chapter 20; tex.web 494 to 500). Openers and \fi are
-- matched like parentheses: what stands between an opener and its \fi is one item of the text around it.
-- The branches are parted by the \else and the \or that stand in no inner condition.
use Rattle.std.specs.Prelude.{ℕ, ◌+◌, ◌==◌, ◌-◌, List, [], ◌∷◌, Option, Some, None, map, if◌then◌else◌}
use Rattle.std.proofs.Common.{zero, suc}
use Rattle.tokens.specs.declared.meaning.Meaning.{Meaning}
use Rattle.conditionals.specs.declared.word.Word.{Word}
use Rattle.conditionals.specs.declared.word.Word.TheVariants.{Opener, Or, Else, Fi, Other}
use Rattle.conditionals.specs.Word.{word_of}

-- an item of a text: a condition from its opener to its \fi with the number of its tokens, or one token
pub data Item : Type 0 where
  Condition : ℕ → Item
  Parting : Item
  Turning : Item
  Plain : Item

-- how many tokens an item has, and a text
abbrev pub item_width : Item → ℕ
item_width (Condition tokens) = tokens
item_width Parting = 1
item_width Turning = 1
item_width Plain = 1

abbrev pub width : List Item → ℕ
width [] = 0
width (item ∷ text) = item_width item + width text

-- a list of tokens as texts: the first one, up to the \fi that no opener of the list matches, and behind
-- that \fi the next, and so on. The first text belongs to the condition that is open, the second to the one
-- around it.
pub record Texts : Type 0 where
  pub first : List Item
  pub outer : List (List Item)

-- an item in front of the first text
abbrev pub onto : Item → Texts → Texts
onto item parts = record { first = item ∷ parts.first; outer = parts.outer }

-- an opener in front of some texts: the first of them and the \fi behind it are its condition, which is an
-- item of the second. Where no \fi follows, the condition takes all there is.
abbrev pub opened : List Item → List (List Item) → Texts
opened first [] = record { first = Condition (width first + 1) ∷ []; outer = [] }
opened first (around ∷ outer) = record { first = Condition (width first + 2) ∷ around; outer = outer }

-- one more token in front of some texts
abbrev pub with_word : Word → Texts → Texts
with_word Opener parts = opened parts.first parts.outer
with_word Or parts = onto Parting parts
with_word Else parts = onto Turning parts
with_word Fi parts = record { first = []; outer = parts.first ∷ parts.outer }
with_word Other parts = onto Plain parts

abbrev pub texts : List Word → Texts
texts [] = record { first = []; outer = [] }
texts (word ∷ words) = with_word word (texts words)

-- where passing over a text ends: how many tokens are taken then, that one included, and which one it is:
-- 0 for \fi, 1 for \else, 2 for \or
pub record Stopping : Type 0 where
  pub taken : ℕ
  pub word : ℕ

-- the same, seen from some tokens further in front
abbrev pub behind : ℕ → Option Stopping → Option Stopping
behind tokens None = None
behind tokens (Some stop) = Some (record { taken = tokens + stop.taken; word = stop.word })

-- where the last token of a text is its \fi, if that is there
abbrev pub at_fi : List (List Item) → Option Stopping
at_fi [] = None
at_fi (around ∷ outer) = Some (record { taken = 1; word = 0 })

-- the first place of a text at which its passing over ends: its \else, its \or where that is the sought one
-- of those that are left, and else its \fi. With 0 every \or is passed.
abbrev pub stop_in : ℕ → List Item → List (List Item) → Option Stopping
stop_in sought [] outer = at_fi outer
stop_in sought (Condition tokens ∷ text) outer = behind tokens (stop_in sought text outer)
stop_in sought (Parting ∷ text) outer =
    if sought == 1 then Some (record { taken = 1; word = 2 }) else behind 1 (stop_in (sought - 1) text outer)
stop_in sought (Turning ∷ text) outer = Some (record { taken = 1; word = 1 })
stop_in sought (Plain ∷ text) outer = behind 1 (stop_in sought text outer)

-- the same for a text in so many inner conditions: their texts and the \fi behind each are passed first
abbrev pub stop_around : ℕ → ℕ → List Item → List (List Item) → Option Stopping
stop_around zero sought first outer = stop_in sought first outer
stop_around (suc inner) sought first [] = None
stop_around (suc inner) sought first (around ∷ outer) = behind (width first + 1) (stop_around inner sought around outer)

abbrev pub stop_among : ℕ → ℕ → Texts → Option Stopping
stop_among inner sought parts = stop_around inner sought parts.first parts.outer

-- whether and where passing over a list of tokens ends, if the sought \or is the one of this number
abbrev pub stop_of : ℕ → List Meaning → Option Stopping
stop_of sought meanings = stop_among 0 sought (texts (map word_of meanings))
