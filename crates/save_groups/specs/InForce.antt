-- The environment that is in force: tables, and trees of the registers from 256 on.
use Rattle.std.specs.Prelude.{nat_le, Bool, ◌||◌, if◌then◌else◌}
use Rattle.save_groups.specs.declared.key.Key.{Key}
use Rattle.save_groups.specs.declared.key.Key.TheVariants.{Register, Parameter, Code, Name, Active, CurrentFont, Family, Shape, Penalties}
use Rattle.save_groups.specs.declared.current.Current.{Current}
use Rattle.save_groups.specs.Environments.{Environment}
use Rattle.save_groups.specs.Entries.{Entries}
use Rattle.save_groups.specs.Entries as tables
use Rattle.save_groups.specs.InTrees.{cell}

-- every entry
abbrev pub at : Current → Environment
at c (Register kind number) = if nat_le 256 number then (cell c.trees kind number).value else tables.at c.tables (Register kind number)
at c (Parameter place) = tables.at c.tables (Parameter place)
at c (Code table byte) = tables.at c.tables (Code table byte)
at c (Name id) = tables.at c.tables (Name id)
at c (Active byte) = tables.at c.tables (Active byte)
at c CurrentFont = tables.at c.tables CurrentFont
at c (Family size number) = tables.at c.tables (Family size number)
at c Shape = tables.at c.tables Shape
at c (Penalties array) = tables.at c.tables (Penalties array)

-- whether an entry's table reaches it, so that it can be replaced. Trees reach all registers
abbrev pub is_reached : Entries → Key → Bool
is_reached e (Register kind number) = nat_le 256 number || tables.has_room e (Register kind number)
is_reached e (Parameter place) = tables.has_room e (Parameter place)
is_reached e (Code table byte) = tables.has_room e (Code table byte)
is_reached e (Name id) = tables.has_room e (Name id)
is_reached e (Active byte) = tables.has_room e (Active byte)
is_reached e CurrentFont = tables.has_room e CurrentFont
is_reached e (Family size number) = tables.has_room e (Family size number)
is_reached e Shape = tables.has_room e Shape
is_reached e (Penalties array) = tables.has_room e (Penalties array)

abbrev pub has_room : Current → Key → Bool
has_room c key = is_reached c.tables key
