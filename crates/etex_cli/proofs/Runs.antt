-- How a run gives the program's exit, and a run that can't begin; the first line of words.
use Rattle.std.specs.Prelude.{◌≡◌, refl, ℕ, ◌<◌, ◌≤◌, List, [], ◌∷◌, length, get_or, map, Option, Some, None}
use Rattle.std.specs.String.{string_bytes}
use Rattle.std.proofs.Common.{String, Global, ap, sym, subst, ◌∙◌, append-nil, arith}
use Rattle.std.proofs.lemmas.Option.{same_Some}
use Rattle.world.specs.Told.{Told}
use Rattle.asking.specs.Seen.{is_prefix}
use Rattle.stomach.specs.declared.ending.Exit.{Exit}
use Rattle.stomach.specs.declared.ending.Exit.TheVariants.{OutOfMemory}
use Rattle.stomach.specs.declared.machine.Ended.{Ended}
use Rattle.etex_cli.specs.Words.{first_line, line_of, Runs, RunsOn}

-- a run for which there is no memory: nothing was done outside
pub no_run : (line : List ℕ) (steps : ℕ) (told : Option Told) (reads : ℕ)
    → Runs line steps (let ended : Ended = record { exit = OutOfMemory; steps = 0; fetches = 0 } in ended) told told reads reads
unfolding is_prefix
no_run line steps None reads = tt
no_run line steps (Some t) reads = record {
  text = [];
  terminal = sym (append-nil t.terminal);
  fetched = refl;
  files = refl;
  turns = 0;
  ends = record { whole = λ h. refl; failed = λ h. absurd (omega (arith, h)) };
}

-- the run on the words is that on their first line
pub runs_on : (first : Option (List ℕ)) (line : List ℕ) (ended : Ended) (old new : Option Told) (reads reads_after : ℕ)
    → first ≡ Some line → Runs line 1000000000 ended old new reads reads_after → RunsOn first ended.exit old new reads reads_after
runs_on None line ended old new reads reads_after e h = cc
runs_on (Some first) line ended old new reads reads_after e h =
    (ended, (refl, subst (λ (l : List ℕ). Runs l 1000000000 ended old new reads reads_after) (sym (same_Some first line e)) h))

-- one word is a first line
pub one_word : (words : List (String Global)) (word : String Global) → 1 ≤ length words → length words < 2 → word ≡ get_or words 0 word
    → first_line (map string_bytes words) ≡ Some (line_of (string_bytes word))
one_word [] word some few is = absurd (omega (arith, some))
one_word (first ∷ []) word some few is = ap (λ (w : String Global). Some (line_of (string_bytes w))) (sym is)
one_word (first ∷ next ∷ rest) word some few is = absurd (omega (arith, few))

-- no word, or several, are none
pub no_words : (words : List (String Global)) → length words < 1 → first_line (map string_bytes words) ≡ None
no_words [] h = refl
no_words (first ∷ rest) h = absurd (omega (arith, h))

pub several_words : (words : List (String Global)) → 2 ≤ length words → first_line (map string_bytes words) ≡ None
several_words [] h = absurd (omega (arith, h))
several_words (first ∷ []) h = absurd (omega (arith, h))
several_words (first ∷ next ∷ rest) h = refl
