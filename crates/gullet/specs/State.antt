-- What expansion works on: all that is still to be read, the conditions that are open, and what stands around them (The
-- TeXbook, chapter 20).
use Rattle.std.specs.Prelude.{ℕ, List}
use Rattle.tokens.specs.Budget.{Allowance}
use Rattle.world.specs.Output.{Output}
use Rattle.conditionals.specs.declared.stack.Condition.{Condition}
use Rattle.pending.specs.Pending.{Item}
use Rattle.save_groups.specs.Environments.{Copies}
use Rattle.save_groups.specs.Standing.{copies_of}
use Rattle.gullet.specs.declared.facts.Facts.{Facts}
use Rattle.gullet.specs.declared.gullet.Gullet.{Gullet}
use Rattle.gullet.specs.declared.site.Passed.{Passed}
use Rattle.gullet.specs.declared.site.Site.{Site}

pub record State : Type 0 where
  -- one flat list, what comes first in front
  pub pending : List Item
  -- the innermost condition first
  pub conditions : List Condition
  -- one whole environment for each open group
  pub copies : Copies
  -- the names, each at its id
  pub names : List (List ℕ)
  pub out : Output
  pub budget : Allowance
  pub facts : Facts
  pub passed : Passed

-- the state that a gullet has on a site
abbrev pub state_of : Gullet → Site → State
state_of gullet site = record {
  pending = gullet.pending;
  conditions = gullet.conditions;
  copies = copies_of site.env;
  names = site.names;
  out = site.out;
  budget = site.budget;
  facts = site.facts;
  passed = site.passed;
}
