-- Words set by the definitions. The eight kinds of ligature are those of Metafont and PL files, `=:`, `|=:` and so on
-- (tex.web, section 545; 1040), and the lists are those that TeX makes.
use Rattle.std.specs.Prelude.{◌≡◌, ℕ, Bool, true, false, ℤ, pos, neg_ℤ, List, [], ◌∷◌, ◌++◌, Option, Some, None}
use Rattle.tokens.specs.Budget.{unused}
use Rattle.tfm.specs.declared.quarters.Quarters.{Quarters}
use Rattle.tfm.specs.declared.character.Character.{Character}
use Rattle.tfm.specs.FontMetrics.{FontMetrics, no_character}
use Rattle.nodes.specs.declared.node.Node.{Node}
use Rattle.nodes.specs.declared.node.Node.TheVariants.{Char, Lig}
use Rattle.lig_kern.specs.Elements.{kern_node}
use Rattle.lig_kern.specs.Rewriting.{word_of_fed, closed, is_due, list_of}
use Rattle.lig_kern.specs.Settling.{settled}

-- ---- fonts

abbrev instruction : ℕ → ℕ → ℕ → ℕ → Quarters
instruction a b c d = record { b0 = a; b1 = b; b2 = c; b3 = d }

abbrev character : ℤ → ℤ → Option ℕ → Character
character width height program =
    record { exists = true; width = width; height = height; depth = pos 0; italic = pos 0; program = program }

abbrev font_of : List Character → List Quarters → List ℤ → Option ℕ → Option ℕ → FontMetrics
font_of characters instructions kerns boundary boundary_program =
    record {
      checksum = 0;
      design = pos 655360;
      size = pos 655360;
      characters = characters;
      instructions = instructions;
      kerns = kerns;
      parameters = [];
      boundary = boundary;
      boundary_program = boundary_program;
    }

-- 0 is 5pt wide, 1 is 10pt, both 7.5pt high; 0 followed by 0 has a kern of -1.25pt
abbrev kern_font : FontMetrics
kern_font =
    font_of (character (pos 327680) (pos 491520) (Some 0) ∷ character (pos 655360) (pos 491520) None ∷ [])
    (instruction 128 0 128 0 ∷ []) (neg_ℤ (pos 81920) ∷ []) None None

-- The character 1 followed by 2, by the right boundary 9, and the left boundary followed by 1, have ligatures with 3 of
-- these kinds. 1 followed by 3 has a kern of 13sp, and 3 followed by 2 one of 32sp.
abbrev ligature_font : ℕ → ℕ → ℕ → FontMetrics
ligature_font kind right_kind left_kind =
    font_of
    (no_character ∷ character (pos 0) (pos 0) (Some 0) ∷ character (pos 0) (pos 0) None ∷ character (pos 0) (pos 0) (Some 3) ∷ [])
    (instruction 0 2 kind 3 ∷ instruction 0 9 right_kind 3 ∷ instruction 128 3 128 0 ∷ instruction 128 2 128 1 ∷ instruction 128 1 left_kind 3 ∷ [])
    (pos 13 ∷ pos 32 ∷ []) (Some 9) (Some 4)

-- 1 followed by 1 makes 1 and 1 again
abbrev endless_font : FontMetrics
endless_font = font_of (no_character ∷ character (pos 0) (pos 0) (Some 0) ∷ []) (instruction 128 1 2 1 ∷ []) [] None None

-- ---- words

abbrev set_word : FontMetrics → Bool → List ℕ → Bool → ℕ → List Node
set_word metrics left fed right steps =
    list_of metrics (settled metrics (closed right (word_of_fed 5 left fed)) (unused steps)).word

abbrev plain : ℕ → List Node
plain byte = Char 5 byte (pos 0) (pos 0) (pos 0) (pos 0) ∷ []

abbrev ligature : List ℕ → Bool → Bool → List Node
ligature source left right =
    Lig (record { font = 5; byte = 3; width = pos 0; height = pos 0; depth = pos 0; italic = pos 0; source = source; left = left; right = right }) ∷ []

abbrev made_of : List ℕ → List Node
made_of source = ligature source false false

abbrev kern : ℕ → List Node
kern width = kern_node (pos width) ∷ []

-- 1 and 2 with a ligature of a kind
abbrev of_kind : ℕ → List ℕ → List Node
of_kind kind fed = set_word (ligature_font kind 0 0) false fed false 1

-- 1 alone, with a ligature of a kind at its left or right boundary
abbrev at_left : ℕ → List Node
at_left kind = set_word (ligature_font 0 0 kind) true (1 ∷ []) false 1

abbrev at_right : ℕ → List Node
at_right kind = set_word (ligature_font 0 kind 0) false (1 ∷ []) true 1

pub record WorkedWords : Type 0 where
  -- a kern, and nothing between 0 and 1
  pub kerned : set_word kern_font true (0 ∷ 0 ∷ 1 ∷ []) true 0
      ≡ Char 5 0 (pos 327680) (pos 491520) (pos 0) (pos 0) ∷ kern_node (neg_ℤ (pos 81920)) ∷ Char 5 0 (pos 327680) (pos 491520) (pos 0) (pos 0)
      ∷ Char 5 1 (pos 655360) (pos 491520) (pos 0) (pos 0) ∷ []
  -- =: and with 2 behind it
  pub both : of_kind 0 (1 ∷ 2 ∷ []) ≡ made_of (1 ∷ 2 ∷ [])
  pub both_before : of_kind 0 (1 ∷ 2 ∷ 2 ∷ []) ≡ made_of (1 ∷ 2 ∷ []) ++ kern 32 ++ plain 2
  -- =:| and =:|>
  pub left_one : of_kind 1 (1 ∷ 2 ∷ []) ≡ made_of (1 ∷ []) ++ kern 32 ++ plain 2
  pub left_one_passed : of_kind 5 (1 ∷ 2 ∷ []) ≡ made_of (1 ∷ []) ++ plain 2
  -- |=: and |=:>
  pub right_one : of_kind 2 (1 ∷ 2 ∷ []) ≡ plain 1 ++ kern 13 ++ made_of (2 ∷ [])
  pub right_one_passed : of_kind 6 (1 ∷ 2 ∷ []) ≡ plain 1 ++ made_of (2 ∷ [])
  -- |=:| and |=:|> and |=:|>>
  pub none : of_kind 3 (1 ∷ 2 ∷ []) ≡ plain 1 ++ kern 13 ++ made_of [] ++ kern 32 ++ plain 2
  pub none_passed : of_kind 7 (1 ∷ 2 ∷ []) ≡ plain 1 ++ made_of [] ++ kern 32 ++ plain 2
  pub none_passed_twice : of_kind 11 (1 ∷ 2 ∷ []) ≡ plain 1 ++ made_of [] ++ plain 2
  -- =: that passes over the two characters behind it, the second of which is 3
  pub passed_on : of_kind 8 (1 ∷ 2 ∷ 2 ∷ 3 ∷ 2 ∷ []) ≡ made_of (1 ∷ 2 ∷ []) ++ plain 2 ++ plain 3 ++ kern 32 ++ plain 2
  -- at the left boundary: =: and |=: and |=:|>
  pub left_both : at_left 0 ≡ ligature (1 ∷ []) true false
  pub left_right : at_left 2 ≡ ligature (1 ∷ []) true false
  pub left_none : at_left 7 ≡ ligature [] true false ++ plain 1
  -- at the right boundary: =: and =:| and |=: and |=:|
  pub right_both : at_right 0 ≡ ligature (1 ∷ []) false true
  pub right_left : at_right 1 ≡ ligature (1 ∷ []) false true
  pub right_right : at_right 2 ≡ plain 1 ++ kern 13 ++ ligature [] false true
  pub right_none : at_right 3 ≡ plain 1 ++ kern 13 ++ ligature [] false true
  -- steps that don't suffice
  pub endless : is_due endless_font (settled endless_font (word_of_fed 5 false (1 ∷ 1 ∷ [])) (unused 7)).word ≡ true
