-- Which movements of a page are kept by the reader and repeated: w and x for horizontal movements, y and z for vertical
-- ones. The two families are decided apart, each from the lists that begin and end and the movements between them.
-- From: tex.web, sections 604 to 615.
use Rattle.std.specs.Prelude.{ℕ, ◌+◌, ◌-◌, ℤ, pos, List, [], ◌∷◌, ◌++◌, length, take, drop, map, reverse, Option, Some, None, slice_index, slice_index_or, slice_set, if◌then◌else◌}
use Rattle.std.specs.List.{fold}
use Rattle.std.specs.Option.{option_map}
use Rattle.std.specs.Ordering.{int_eq}
use Rattle.dvi_out.specs.declared.movements.Word.{Word}
use Rattle.dvi_out.specs.declared.movements.Word.TheVariants.{First, Second}
use Rattle.dvi_out.specs.declared.movements.Mark.{Mark}
use Rattle.dvi_out.specs.declared.movements.Mark.TheVariants.{Free, FirstOnly, SecondOnly, Fixed, FirstHere, SecondHere}
use Rattle.dvi_out.specs.declared.movements.Movement.{Movement}
use Rattle.dvi_out.specs.declared.movements.Look.{Look}
use Rattle.dvi_out.specs.declared.movements.Look.TheVariants.{Pass, Hit, Leave}

-- ---- marks

-- the word as which a movement's width is kept
abbrev pub word_here : Mark → Option Word
word_here Free = None
word_here FirstOnly = None
word_here SecondOnly = None
word_here Fixed = None
word_here FirstHere = Some First
word_here SecondHere = Some Second

abbrev pub mark_here : Word → Mark
mark_here First = FirstHere
mark_here Second = SecondHere

-- the mark of a movement that stands between two that share a word: it can't be kept as that word
abbrev pub mark_between : Word → Mark → Mark
mark_between First Free = SecondOnly
mark_between First FirstOnly = Fixed
mark_between First SecondOnly = SecondOnly
mark_between First Fixed = Fixed
mark_between First FirstHere = FirstHere
mark_between First SecondHere = SecondHere
mark_between Second Free = FirstOnly
mark_between Second FirstOnly = FirstOnly
mark_between Second SecondOnly = Fixed
mark_between Second Fixed = Fixed
mark_between Second FirstHere = FirstHere
mark_between Second SecondHere = SecondHere

-- ---- the search

-- a movement of the width, where none that is kept has been seen, or one of the first, or one of the second word
abbrev pub of_the_width : Option Word → Mark → Look
of_the_width None Free = Hit First
of_the_width None FirstOnly = Hit First
of_the_width None SecondOnly = Hit Second
of_the_width None Fixed = Pass None
of_the_width None FirstHere = Hit First
of_the_width None SecondHere = Hit Second
of_the_width (Some First) Free = Hit Second
of_the_width (Some First) FirstOnly = Pass (Some First)
of_the_width (Some First) SecondOnly = Hit Second
of_the_width (Some First) Fixed = Pass (Some First)
of_the_width (Some First) FirstHere = Pass (Some First)
of_the_width (Some First) SecondHere = Hit Second
of_the_width (Some Second) Free = Hit First
of_the_width (Some Second) FirstOnly = Hit First
of_the_width (Some Second) SecondOnly = Pass (Some Second)
of_the_width (Some Second) Fixed = Pass (Some Second)
of_the_width (Some Second) FirstHere = Hit First
of_the_width (Some Second) SecondHere = Pass (Some Second)

-- a movement of another width: what was seen, and the word as which it is kept
abbrev pub of_another_width : Option Word → Option Word → Look
of_another_width seen None = Pass seen
of_another_width None (Some word) = Pass (Some word)
of_another_width (Some First) (Some First) = Pass (Some First)
of_another_width (Some First) (Some Second) = Leave
of_another_width (Some Second) (Some First) = Leave
of_another_width (Some Second) (Some Second) = Pass (Some Second)

abbrev pub look_at : ℤ → Option Word → Movement → Look
look_at width seen movement =
    if int_eq movement.width width
    then of_the_width seen movement.mark
    else of_another_width seen (word_here movement.mark)

-- what follows a look: how many movements are passed before the one that is hit, and the word
abbrev pub after_look : Look → (Option Word → Option (ℕ × Word)) → Option (ℕ × Word)
after_look (Pass seen) further = option_map (λ found. (found.0 + 1, found.1)) (further seen)
after_look (Hit word) further = Some (0, word)
after_look Leave further = None

-- From the latest open movement to the earliest: how many are passed before the one that shares its word with a new
-- movement of the width, and the word. None is found where the list ends or both words are kept between.
abbrev pub search : ℤ → List Movement → Option Word → Option (ℕ × Word)
search width [] seen = None
search width (movement ∷ earlier) seen = after_look (look_at width seen movement) (search width earlier)

-- ---- the movements of a family

-- All movements of the page so far, the places of those that stand in a list that hasn't ended, and for each such list
-- how many were open when it began.
pub record Family : Type 0 where
  pub moves : List Movement
  pub open_places : List ℕ
  pub began : List ℕ

abbrev pub family : List Movement → List ℕ → List ℕ → Family
family moves open_places began = record { moves = moves; open_places = open_places; began = began }

abbrev pub no_movements : Family
no_movements = family [] [] []

-- a list begins
abbrev pub opened : Family → Family
opened f = family f.moves f.open_places (f.began ++ length f.open_places ∷ [])

-- a list ends, and what stood in it is no longer open
abbrev pub closed : Family → Family
closed f =
    family f.moves (take (slice_index f.began (length f.began - 1)) f.open_places) (take (length f.began - 1) f.began)

-- a movement that carries its width
abbrev pub carried : ℤ → Movement
carried width = record { width = width; mark = Free; repeats = None }

-- a movement that repeats a word
abbrev pub repeated : ℤ → Word → Movement
repeated width word = record { width = width; mark = mark_here word; repeats = Some word }

abbrev pub movement_at : List Movement → ℕ → Movement
movement_at moves place = slice_index_or moves place (carried (pos 0))

abbrev pub with_mark : Mark → Movement → Movement
with_mark mark movement = record { width = movement.width; mark = mark; repeats = movement.repeats }

-- the movement at a place is kept as the word
abbrev pub kept_at : Word → ℕ → List Movement → List Movement
kept_at word place moves = slice_set moves place (with_mark (mark_here word) (movement_at moves place))

-- the movement at a place stands between two that share the word
abbrev pub passed_at : Word → List Movement → ℕ → List Movement
passed_at word moves place =
    slice_set moves place (with_mark (mark_between word (movement_at moves place).mark) (movement_at moves place))

-- the open movement that stands behind the k latest
abbrev pub open_at : Family → ℕ → Movement
open_at f k = movement_at f.moves (slice_index f.open_places (length f.open_places - 1 - k))

-- the open movements, the latest first
abbrev pub open_movements : Family → List Movement
open_movements f = map (movement_at f.moves) (reverse f.open_places)

-- the movement of a place, with those behind it, shares its word with a new one of the width
abbrev pub shared : ℤ → Word → ℕ → List ℕ → List Movement → List Movement
shared width word place between moves =
    fold (passed_at word) (kept_at word place moves) between ++ repeated width word ∷ []

abbrev pub with_found : ℤ → Family → Option (ℕ × Word) → List Movement
with_found width f None = f.moves ++ carried width ∷ []
with_found width f (Some found) =
    shared width found.1 (slice_index f.open_places (length f.open_places - 1 - found.0))
    (drop (length f.open_places - found.0) f.open_places) f.moves

-- a movement comes
abbrev pub moved : ℤ → Family → Family
moved width f =
    family (with_found width f (search width (open_movements f) None)) (f.open_places ++ length f.moves ∷ []) f.began
