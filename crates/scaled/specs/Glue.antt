-- Equality of glue specifications, as a test that a definition can branch on.
-- From: tex.web, part 10 (sections 149 to 151); The TeXbook, chapter 12.
use Rattle.std.specs.Prelude.{Bool, true, false, ◌&&◌}
use Rattle.std.specs.Ordering.{int_eq}
use Rattle.scaled.specs.declared.spacing.Order.{Order}
use Rattle.scaled.specs.declared.spacing.Order.TheVariants.{Normal, Fil, Fill, Filll}
use Rattle.scaled.specs.declared.spacing.Glue.{Glue}

-- whether two orders of infinity are one
abbrev pub same_order : Order → Order → Bool
same_order Normal Normal = true
same_order Fil Fil = true
same_order Fill Fill = true
same_order Filll Filll = true
same_order _ _ = false

-- whether two glue specifications agree in their five parts
abbrev pub same_glue : Glue → Glue → Bool
same_glue g h =
    int_eq g.width h.width
    && int_eq g.stretch h.stretch
    && same_order g.stretch_order h.stretch_order
    && int_eq g.shrink h.shrink
    && same_order g.shrink_order h.shrink_order
