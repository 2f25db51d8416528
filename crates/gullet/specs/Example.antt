-- Worked expansions, computed by the definitions alone, in the environments of the start.
use Rattle.std.specs.Prelude.{◌≡◌, ℕ, true, false, List, [], ◌∷◌, Option, Some, None, Ok, Err}
use Rattle.tokens.specs.Budget.{unused}
use Rattle.tokens.specs.Codes.{count_code, catcode_code, number_code, else_code, or_code, fi_code, endcsname_code, relax_code}
use Rattle.tokens.specs.Primitives.{primitive_names}
use Rattle.tokens.specs.declared.token.Token.{Token}
use Rattle.tokens.specs.declared.token.Token.TheVariants.{Char, Name, Arg}
use Rattle.tokens.specs.declared.meaning.Macro.{Macro}
use Rattle.world.specs.Output.{nothing_yet}
use Rattle.asking.specs.Meaning.{Place}
use Rattle.asking.specs.Did.{Did}
use Rattle.asking.specs.Seen.{Outside}
use Rattle.pending.specs.Pending.{Item, Ready, From, with_list}
use Rattle.save_groups.specs.Environments.{beginning}
use Rattle.gullet.specs.declared.facts.Facts.{Facts}
use Rattle.gullet.specs.declared.task.Task.{Task}
use Rattle.gullet.specs.declared.task.Task.TheVariants as task
use Rattle.gullet.specs.declared.task.Test.TheVariants as test
use Rattle.gullet.specs.declared.task.Numerals.TheVariants.{Decimal, Roman}
use Rattle.gullet.specs.declared.task.Part.TheVariants.{Code, Category}
use Rattle.gullet.specs.declared.task.Simple.TheVariants as simple
use Rattle.gullet.specs.Expansion.{outcome, outermost}
use Rattle.gullet.specs.State.{State}

abbrev pub no_files : Outside
no_files = record { tells = true; files = λ name. None }

abbrev pub nowhere : Place
nowhere = record { asked = 0; shown = [] }

-- a state in which these tokens are read
abbrev pub reading : Facts → List Token → State
reading facts tokens = record {
  pending = with_list tokens [];
  conditions = [];
  copies = beginning true;
  names = primitive_names;
  out = nothing_yet;
  budget = unused 100;
  facts = facts;
  passed = record { total = 0; recent = 0 };
}

-- tokens for texts
abbrev pub letter : ℕ → Token
letter byte = Char 11 byte

abbrev pub other : ℕ → Token
other byte = Char 12 byte

abbrev pub space : Token
space = Char 10 32

abbrev pub named : ℕ → Token
named id = Name (record { 0 = id })

-- the tokens that are left, where nothing else is
abbrev pub with_token : Token → Option (List Token) → Option (List Token)
with_token t None = None
with_token t (Some tokens) = Some (t ∷ tokens)

abbrev pub tokens_left : List Item → Option (List Token)
tokens_left [] = Some []
tokens_left (Ready waiting ∷ pending) = with_token waiting.token (tokens_left pending)
tokens_left (From source ∷ pending) = None

-- what is left of the tokens once a phrase was read, with the steps that it took
pub record Left : Type 0 where
  pub tokens : List Token
  pub steps : ℕ

abbrev pub left_by : Option (List Token) → ℕ → Option Left
left_by None steps = None
left_by (Some tokens) steps = Some (record { tokens = tokens; steps = steps })

abbrev pub left_of : {A : Type 0} → Did State A → Option Left
left_of (Ok (told, s)) = left_by (tokens_left s.pending) s.budget.used
left_of (Err e) = None

abbrev pub Leaves : Task → List Token → List Token → ℕ → Type 0
Leaves kind tokens left steps =
    (facts : Facts) → left_of (outcome no_files outermost kind (reading facts tokens) nowhere).ends ≡ Some (record { tokens = left; steps = steps })

-- the macro with the parameter text `#1.` and the body `[#1]`
abbrev pub bracketed : Macro
bracketed = record {
  long = false;
  outer = false;
  guarded = false;
  params = Arg 1 ∷ other 46 ∷ [];
  body = other 91 ∷ Arg 1 ∷ other 93 ∷ [];
}

pub record WorkedExpansions : Type 0 where
  -- \number\count7 x
  pub number : Leaves (task.NumberText Decimal) (named count_code ∷ other 55 ∷ space ∷ letter 120 ∷ []) (other 48 ∷ letter 120 ∷ []) 3
  -- \ifnum1<2a\else b\fi: the branch is read
  pub yes : Leaves (task.If test.Number) (other 49 ∷ other 60 ∷ other 50 ∷ letter 97 ∷ named else_code ∷ letter 98 ∷ named fi_code ∷ [])
      (letter 97 ∷ named else_code ∷ letter 98 ∷ named fi_code ∷ []) 4
  -- \ifnum2<1a\else b\fi: the branch is passed over
  pub no : Leaves (task.If test.Number) (other 50 ∷ other 60 ∷ other 49 ∷ letter 97 ∷ named else_code ∷ letter 98 ∷ named fi_code ∷ [])
      (letter 98 ∷ named fi_code ∷ []) 5
  -- \expandafter a\number1 x
  pub after : Leaves task.ExpandAfter (letter 97 ∷ named number_code ∷ other 49 ∷ space ∷ letter 120 ∷ [])
      (letter 97 ∷ other 49 ∷ letter 120 ∷ []) 4
  -- \csname relax\endcsname
  pub name : Leaves task.NameText (letter 114 ∷ letter 101 ∷ letter 108 ∷ letter 97 ∷ letter 120 ∷ named endcsname_code ∷ letter 98 ∷ [])
      (named relax_code ∷ letter 98 ∷ []) 6
  -- \romannumeral14 x
  pub roman : Leaves (task.NumberText Roman) (other 49 ∷ other 52 ∷ space ∷ letter 120 ∷ []) (other 120 ∷ other 105 ∷ other 118 ∷ letter 120 ∷ []) 3
  -- \ifodd-3 a\else b\fi, and \iffalse a\else b\fi
  pub odd : Leaves (task.If test.Odd) (other 45 ∷ other 51 ∷ space ∷ letter 97 ∷ named else_code ∷ letter 98 ∷ named fi_code ∷ [])
      (letter 97 ∷ named else_code ∷ letter 98 ∷ named fi_code ∷ []) 3
  pub never : Leaves (task.If (test.Always false)) (letter 97 ∷ named else_code ∷ letter 98 ∷ named fi_code ∷ []) (letter 98 ∷ named fi_code ∷ []) 2
  -- \ifcase1 a\or b\else c\fi
  pub cases : Leaves (task.If test.Case)
      (other 49 ∷ space ∷ letter 97 ∷ named or_code ∷ letter 98 ∷ named else_code ∷ letter 99 ∷ named fi_code ∷ [])
      (letter 98 ∷ named else_code ∷ letter 99 ∷ named fi_code ∷ []) 4
  -- \ifx\relax\fi a\else b\fi: names that mean different things
  pub same : Leaves (task.If test.SameMeaning)
      (named relax_code ∷ named fi_code ∷ letter 97 ∷ named else_code ∷ letter 98 ∷ named fi_code ∷ []) (letter 98 ∷ named fi_code ∷ []) 4
  -- \if ab and \ifcat ab
  pub alike : Leaves (task.If (test.Alike Code)) (letter 97 ∷ letter 98 ∷ letter 99 ∷ named fi_code ∷ []) [] 4
  pub of_a_kind : Leaves (task.If (test.Alike Category)) (letter 97 ∷ letter 98 ∷ letter 99 ∷ named fi_code ∷ []) (letter 99 ∷ named fi_code ∷ []) 2
  -- \string\fi and \meaning a
  pub string : Leaves (task.Simple simple.TokenText) (named fi_code ∷ letter 120 ∷ []) (other 92 ∷ other 102 ∷ other 105 ∷ letter 120 ∷ []) 1
  pub meaning : Leaves (task.Simple simple.MeaningText) (other 43 ∷ [])
      (other 116 ∷ other 104 ∷ other 101 ∷ space ∷ other 99 ∷ other 104 ∷ other 97 ∷ other 114 ∷ other 97 ∷ other 99 ∷ other 116 ∷ other 101 ∷ other 114 ∷ space ∷ other 43 ∷ []) 1
  -- \the\catcode65 x
  pub code : Leaves (task.The false) (named catcode_code ∷ other 54 ∷ other 53 ∷ space ∷ letter 120 ∷ []) (other 49 ∷ other 49 ∷ letter 120 ∷ []) 4
  -- the macro on `xy.z`
  pub call : Leaves (task.Call (named relax_code) bracketed) (letter 120 ∷ letter 121 ∷ other 46 ∷ letter 122 ∷ [])
      (other 91 ∷ letter 120 ∷ letter 121 ∷ other 93 ∷ letter 122 ∷ []) 3
