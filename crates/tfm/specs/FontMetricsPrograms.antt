-- What a font's program of ligatures and kerns does for two characters that meet (tex.web sections 545, 546, 1034 to
-- 1040; The TeXbook, appendix F).
use Rattle.std.specs.Prelude.{ℕ, zero, suc, ◌+◌, ◌-◌, ◌*◌, ◌/◌, ◌%◌, Bool, ◌&&◌, ◌==◌, nat_lt, nat_le, if◌then◌else◌, ℤ, pos, List, [], ◌∷◌, slice_index_or, Option, Some, None}
use Rattle.tfm.specs.declared.quarters.Quarters.{Quarters}
use Rattle.tfm.specs.declared.action.Action.{Action}
use Rattle.tfm.specs.declared.action.Action.TheVariants.{Nothing, Kern, Lig}
use Rattle.tfm.specs.FontMetrics.{FontMetrics, character_in}

-- an instruction is for the character on the right
abbrev pub is_for : Quarters → ℕ → Bool
is_for word right = (word.b1 == right) && nat_le word.b0 128

-- an instruction that isn't for it ends the program; another goes on past as many words as its first byte says
abbrev pub ends : Quarters → Bool
ends word = nat_le 128 word.b0

-- the instruction for the character on the right, in a program that begins past the first words
abbrev pub instruction_for : ℕ → ℕ → List Quarters → Option Quarters
instruction_for right past [] = None
instruction_for right zero (word ∷ words) =
    if is_for word right then Some word else (if ends word then None else instruction_for right word.b0 words)
instruction_for right (suc past) (word ∷ words) = instruction_for right past words

-- where the program begins of a character on the left, or of the boundary where there is none
abbrev pub program_in : FontMetrics → Option ℕ → Option ℕ
program_in metrics None = metrics.boundary_program
program_in metrics (Some left) = (character_in metrics left).program

-- what an instruction does: the third byte is 128 or more for a kern, else it says how a ligature's character is put in
abbrev pub effect_of : List ℤ → Quarters → Action
effect_of kerns word =
    if nat_lt word.b2 128
    then Lig word.b3 (word.b2 / 2 % 2 == 1) (word.b2 % 2 == 1) (word.b2 / 4)
    else Kern (slice_index_or kerns (256 * (word.b2 - 128) + word.b3) (pos 0))

abbrev pub effect_in : List ℤ → Option Quarters → Action
effect_in kerns None = Nothing
effect_in kerns (Some word) = effect_of kerns word

abbrev pub action_from : List Quarters → List ℤ → ℕ → Option ℕ → Action
action_from instructions kerns right None = Nothing
action_from instructions kerns right (Some start) = effect_in kerns (instruction_for right start instructions)

-- what happens where a character on the left, or the boundary, meets a character on the right
abbrev pub action_in : FontMetrics → Option ℕ → ℕ → Action
action_in metrics left right =
    action_from metrics.instructions metrics.kerns right (program_in metrics left)
