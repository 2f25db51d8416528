-- Worked runs, computed by the definitions alone: one file with one message; a file that is opened within a number;
-- and one that is named while another name is read.
use Rattle.std.specs.Prelude.{◌≡◌, ℕ, true, None, Some, if◌then◌else◌, List, [], ◌∷◌, ◌++◌, codes}
use Rattle.std.specs.Str.{bytes_eq}
use Rattle.asking.specs.Seen.{Outside}
use Rattle.stomach.specs.declared.ending.Exit.TheVariants.{Done}
use Rattle.stomach.specs.Ending.{outcome_of}
use Rattle.stomach.specs.Machine.{beginning, at_start, run}

-- the line that gives braces, `#` and `^` their categories, and a line with a message
abbrev pub message_file : List ℕ
message_file =
    codes "\\catcode`\\{=1 \\catcode`\\}=2 \\catcode`\\#=6 \\catcode`\\^=7" ++ 10 ∷ codes "\\message{hi}\\end" ++ 10 ∷ []

-- a file with the message, one with a digit, and one that does nothing
abbrev pub three_files : Outside
three_files = record {
  tells = true;
  files = λ name.
      if bytes_eq name (codes "a.tex") then Some message_file
      else if bytes_eq name (codes "n.tex") then Some (codes "1%")
      else if bytes_eq name (codes "r.tex") then Some (codes "\\relax")
      else None;
}

-- the run on a first line ends well, shows this text, and takes so many steps and files
abbrev pub EndsWell : ℕ → List ℕ → List ℕ → ℕ → ℕ → Type 0
EndsWell turns line text steps fetches =
    outcome_of 100 at_start (run three_files turns (beginning line 100)) ≡ Some (record { exit = Done; text = text ++ 10 ∷ codes "No pages of output." ++ 10 ∷ []; steps = steps; fetches = fetches })

pub record WorkedRun : Type 0 where
  pub message : EndsWell 12 (codes "a") (codes "(a.tex hi )") 35 1
  pub number : EndsWell 6 (codes "\\catcode`\\{=\\input n \\relax\\end") (codes "(n.tex)") 12 1
  pub name : EndsWell 9 (codes "\\input r\\input r \\end") (codes "(r.tex) (r.tex)") 12 2
