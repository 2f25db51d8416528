-- Environments, copied whole at the beginning of each group (The TeXbook, chapter 24, on grouping): the one that
-- is in force, and for each open group the one that stood outside it.
use Rattle.std.specs.Prelude.{ℕ, ◌+◌, ◌==◌, Bool, not, List, [], ◌∷◌, ◌++◌, map, length, filter, Option, Some, None, if◌then◌else◌}
use Rattle.tokens.specs.declared.token.Token.{Token}
use Rattle.save_groups.specs.declared.key.Key.{Key}
use Rattle.save_groups.specs.declared.value.Value.{Value}
use Rattle.save_groups.specs.declared.entry.Entry.{Entry}
use Rattle.save_groups.specs.declared.group.Left.{Left}
use Rattle.save_groups.specs.declared.save.Save.{Save}
use Rattle.save_groups.specs.Keys.{same_key}
use Rattle.save_groups.specs.StartValues.{start_value}

-- the value and the level of every entry
abbrev pub Environment : Type 0
Environment = Key → Entry Value

-- an environment with one entry changed
abbrev pub updated : Key → Entry Value → Environment → Environment
updated key entry env = λ other. if same_key key other then entry else env other

-- an open group
pub record OpenGroup : Type 0 where
  -- the environment that stood when the group began, with what was assigned globally since
  pub outside : Environment
  pub kind : ℕ
  pub line : ℕ
  pub after : List Token

-- the environment that is in force, the open groups, the innermost first, and the saves that were made in them,
-- the oldest first
pub record Copies : Type 0 where
  pub extended : Bool
  pub last : Environment
  pub groups : List OpenGroup
  pub saves : List Save

-- the environments, from the inside out
abbrev pub environments : Copies → List Environment
environments c = c.last ∷ map (λ g. g.outside) c.groups

-- how many there are: one outside all groups, and one more for each open group
abbrev pub level_of : Copies → ℕ
level_of c = length c.groups + 1

-- at the start there is one environment, in which each entry has the level 1
abbrev pub start_environment : Bool → Environment
start_environment extended = λ key. record { value = start_value extended key; level = 1 }

abbrev pub beginning : Bool → Copies
beginning extended = record { extended = extended; last = start_environment extended; groups = []; saves = [] }

-- a group begins: its environment is an equal copy of the one that is in force
abbrev pub entered : ℕ → ℕ → Copies → Copies
entered kind line c =
    record c { groups = record { outside = c.last; kind = kind; line = line; after = [] } ∷ c.groups }

-- the saves that were not made in a group
abbrev pub saves_outside : ℕ → List Save → List Save
saves_outside group saves = filter (λ save. not (save.group == group)) saves

-- the saves that were made in a group
abbrev pub saves_inside : ℕ → List Save → List Save
saves_inside group saves = filter (λ save. save.group == group) saves

-- the innermost group
abbrev pub first_of : List OpenGroup → Option OpenGroup
first_of [] = None
first_of (group ∷ groups) = Some group

abbrev pub innermost : Copies → Option OpenGroup
innermost c = first_of c.groups

-- the innermost group ends: the environment outside it is in force again, and its saves are dropped
abbrev pub left_by : List OpenGroup → Copies → Copies
left_by [] c = c
left_by (group ∷ groups) c =
    record c { last = group.outside; groups = groups; saves = saves_outside (level_of c) c.saves }

abbrev pub left : Copies → Copies
left c = left_by c.groups c

-- what is told of the group that ends
abbrev pub told_of : OpenGroup → Left
told_of group = record { kind = group.kind; line = group.line; after = group.after }

-- a token waits for the end of the innermost group
abbrev pub with_after_by : Token → List OpenGroup → Copies → Copies
with_after_by token [] c = c
with_after_by token (group ∷ groups) c = record c { groups = record group { after = group.after ++ token ∷ [] } ∷ groups }

abbrev pub with_after : Token → Copies → Copies
with_after token c = with_after_by token c.groups c

-- the kind of the innermost group, 0 outside all groups
abbrev pub kind_of : List OpenGroup → ℕ
kind_of [] = 0
kind_of (group ∷ groups) = group.kind
