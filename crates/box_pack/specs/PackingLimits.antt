-- The limits of boxes.
-- From: the limits `box nesting`, `list items` and `dimension`, which are rules of this program; tex.web, section 421, has
-- the greatest dimension.
use Rattle.std.specs.Prelude.{◌+◌, nat_lt, Bool, ◌||◌, ℤ, ◌-ℤ◌, unsigned_abs, List, Result, Ok, Err, if◌then◌else◌}
use Rattle.tokens.specs.declared.cap.Cap.TheVariants.{BoxNesting, Items, BoxSize}
use Rattle.tokens.specs.declared.stop.Stop.{Stop}
use Rattle.tokens.specs.declared.stop.Stop.TheVariants.{Capacity}
use Rattle.nodes.specs.declared.node.Node.{Node}
use Rattle.nodes.specs.PackingMeasure.{nesting_of, count_of}
use Rattle.box_pack.specs.declared.extent.Extent.{Extent}
use Rattle.box_pack.specs.declared.measuring.Measure.{Measure}
use Rattle.box_pack.specs.declared.limits.Plan.{Plan}

-- a box is nested 1 deeper than its list, and at most 500 deep
abbrev pub is_too_deep : List Node → Bool
is_too_deep list = nat_lt 500 (1 + nesting_of list)

-- a list has at most 16777215 nodes, all nodes inside counted
abbrev pub is_too_long : List Node → Bool
is_too_long list = nat_lt 16777215 (count_of list)

-- a size lies within 1073741823 either way
abbrev pub is_too_large : ℤ → Bool
is_too_large size = nat_lt 1073741823 (unsigned_abs size)

-- what is made of a list that is neither too deep nor too long; of two limits that are passed the first is told
abbrev pub if_measured : {A : Type 0} → List Node → A → Result A Stop
if_measured list a =
    if is_too_deep list then Err (Capacity BoxNesting) else
    (if is_too_long list then Err (Capacity Items) else Ok a)

-- the limit that a list which is too long passes first
abbrev pub first_passed : List Node → Stop
first_passed list = if is_too_deep list then Capacity BoxNesting else Capacity Items

-- what a box over a list tells of itself
abbrev pub box_measure : List Node → Measure
box_measure list = record { nesting = 1 + nesting_of list; count = count_of list }

-- a size, if it is within its limit
abbrev pub limited : ℤ → Result ℤ Stop
limited size = if is_too_large size then Err (Capacity BoxSize) else Ok size

-- width, height and depth
abbrev pub is_large : Extent → Bool
is_large extent = is_too_large extent.width || is_too_large extent.height || is_too_large extent.depth

abbrev pub limited_extent : Extent → Result Extent Stop
limited_extent extent = if is_large extent then Err (Capacity BoxSize) else Ok extent

-- the sizes of a box, and the excess that its glue is to make up for, where also its natural size is within the limit
abbrev pub plan_for : ℤ → ℤ → Extent → Result Plan Stop
plan_for natural size extent =
    if is_too_large natural || is_large extent then Err (Capacity BoxSize)
    else Ok (record { extent = extent; excess = size -ℤ natural })
