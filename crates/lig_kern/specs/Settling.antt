-- How far a word is rewritten with the steps that are left: each rewriting takes one, and the first for which none is
-- left ends the run (tex.web, section 1040; the count of steps is this project's).
use Rattle.std.specs.Prelude.{◌≡◌, ◌≤◌, ℕ, zero, suc, ◌+◌, ◌-◌, ◌*◌, Bool, true, false, if◌then◌else◌, List, [], ◌∷◌, length, Result, Ok, Err}
use Rattle.tokens.specs.declared.stop.Stop.{Stop}
use Rattle.tokens.specs.declared.stop.Stop.TheVariants.{Spent}
use Rattle.tokens.specs.Ends.{EndsAs}
use Rattle.tokens.specs.Budget.{Allowance, is_spent, after_step}
use Rattle.tfm.specs.FontMetrics.{FontMetrics}
use Rattle.nodes.specs.declared.node.Node.{Node}
use Rattle.lig_kern.specs.declared.element.Element.{Element}
use Rattle.lig_kern.specs.Rewriting.{Word, word_at, moved, is_due, with_ligature, rewritten, after, list_of}

-- how many rewritings are done, with so many steps left: as many as are due, while steps are left
unfoldable pub rewritings : FontMetrics → ℕ → Word → ℕ
rewritings metrics zero word = 0
rewritings metrics (suc left) word =
    if is_due metrics (moved metrics word) then suc (rewritings metrics left (rewritten metrics (moved metrics word)))
    else 0

abbrev pub after_steps : ℕ → Allowance → Allowance
after_steps count budget = record { left = budget.left - count; used = budget.used + count }

-- a word and the budget behind its rewritings
pub record Settled : Type 0 where
  pub word : Word
  pub budget : Allowance

unfoldable pub settled : FontMetrics → Word → Allowance → Settled
settled metrics word budget =
    record {
      word = after metrics (rewritings metrics budget.left word) word;
      budget = after_steps (rewritings metrics budget.left word) budget;
    }

-- A call leaves the word and the budget behind its rewritings. It ends with Spent exactly where a ligature is still due,
-- and else the cursor is at the end of what was fed. Want of memory alone is free.
abbrev pub Settles : {A : Type 0} → FontMetrics → Word → Allowance → Result A Stop → Word → Allowance → Type 0
Settles metrics word budget (Ok value) word_after budget_after =
    (settled metrics word budget ≡ record { word = word_after; budget = budget_after }) × (word_after.ahead ≡ [])
Settles metrics word budget (Err stop) word_after budget_after =
    EndsAs (λ end. (end ≡ Spent) × (settled metrics word budget ≡ record { word = word_after; budget = budget_after }) × (is_due metrics word_after ≡ true)) stop

-- the same at the end of a word, which gives its list
abbrev pub GivesList : FontMetrics → Settled → List Node → Allowance → Type 0
GivesList metrics end list budget_after =
    (end.word.ahead ≡ []) × (list ≡ list_of metrics end.word) × (budget_after ≡ end.budget)

abbrev pub IsSpentAt : FontMetrics → Settled → Allowance → Stop → Type 0
IsSpentAt metrics end budget_after stop =
    (stop ≡ Spent) × (is_due metrics end.word ≡ true) × (budget_after ≡ end.budget)

-- ---- one turn

-- the word with an element right of the cursor
abbrev pub before : Element → Word → Word
before next word = word_at word.font word.set word.here word.over (next ∷ word.ahead)

-- a call takes a step and does the rewriting, or no step is left and the word is as before
abbrev pub Rewrites : {A : Type 0} → ℕ → Bool → Bool → ℕ → Element → Word → Allowance → Result A Stop → Word → Allowance → Type 0
Rewrites byte keep_left keep_right skip next word budget (Ok value) word_after budget_after =
    (word_after ≡ with_ligature byte keep_left keep_right skip next word) × (budget_after ≡ after_step budget) × (is_spent budget ≡ false)
Rewrites byte keep_left keep_right skip next word budget (Err stop) word_after budget_after =
    EndsAs (λ end. (end ≡ Spent) × (word_after ≡ before next word) × (budget_after ≡ budget) × (is_spent budget ≡ true)) stop

-- what is still to be done of a word: the steps that are left, and what stands right of the cursor
abbrev pub to_do : Word → Allowance → ℕ
to_do word budget = 2 * budget.left + length word.ahead

-- A turn leads on to what the whole word comes to, or ends with a ligature for which no step is left.
abbrev pub Meets : {A : Type 0} → FontMetrics → Element → Word → Allowance → Result A Stop → Word → Allowance → Type 0
Meets metrics next word budget (Ok value) word_after budget_after =
    (settled metrics word_after budget_after ≡ settled metrics (before next word) budget) × (to_do word_after budget_after ≤ to_do word budget)
Meets metrics next word budget (Err stop) word_after budget_after =
    EndsAs (λ end. (end ≡ Spent) × (settled metrics (before next word) budget ≡ record { word = word_after; budget = budget_after }) × (is_due metrics word_after ≡ true)) stop
