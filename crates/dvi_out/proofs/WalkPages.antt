-- Boxes in lists, each node of the tree under a page, and the page.
use Rattle.std.proofs.Common.{◌≡◌, ℕ, zero, suc, ℤ, pos, ◌+ℤ◌, ◌-ℤ◌, Bool, true, false, Option, Some, None, List, [], ◌∷◌, ◌++◌, map, refl, sym, ap, ◌∙◌, arith, subst, if◌then◌else◌, All}
use Rattle.std.specs.Int.{w32, int_wrap}
use Rattle.std.specs.Int.RustNames.{FitsSigned}
use Rattle.std.specs.List.{AllByRecursion}
use Rattle.std.proofs.lemmas.Int.{ints, int_wrap_fits}
use Rattle.std.proofs.lemmas.List.Elements.{recursion_from_All}
use Rattle.scaled.specs.declared.spacing.Glue.{Glue}
use Rattle.nodes.specs.declared.node.Node.{Node}
use Rattle.nodes.specs.declared.node.Node.TheOpen.{Node-F}
use Rattle.nodes.specs.declared.node.Node.TheFolds.{map-Node, fold-roll-Node, every-Node, every_here-Node, every_held-Node, ind-Node}
use Rattle.nodes.specs.declared.node.Node.TheViews.{roll-Node, out-roll-Node}
use Rattle.nodes.specs.declared.boxes.BoxNode.{BoxNode}
use Rattle.nodes.specs.declared.boxes.GlueSet.{GlueSet}
use Rattle.nodes.specs.declared.spacing.Leaders.{Leaders}
use Rattle.nodes.specs.declared.whatsit.Whatsit.{Whatsit}
use Rattle.nodes.specs.declared.whatsit.Whatsit.TheVariants as whatsit
use Rattle.nodes.specs.Inside.{inside, item_of, inside-map, box_map}
use Rattle.dvi_out.specs.declared.command.Command.{Command}
use Rattle.dvi_out.specs.Places as place
use Rattle.dvi_out.specs.Places.{Placed, Laid, Around, modulo, length_along, lay, laid_node, each_placed, box_placed, box_laid}
use Rattle.dvi_out.specs.DviReading.{Reader, begin_page}
use Rattle.dvi_out.specs.Obeying.{all_obeyed}
use Rattle.dvi_out.specs.SpellingFile.{page_walk}
use Rattle.dvi_out.specs.SpellingWalk as spell
use Rattle.dvi_out.specs.SpellingWalk.{Walk, walk, Frame, Printed, sizes_of, plus, minus, to_h, to_v, synched_v, entered, glued, space_of, each_printed, frame_of, list_begun, list_printed, box_printed, at_box, behind_box, past_box, is_empty, with_box, with_whatsit, print_step, printed_node}
use Rattle.dvi_out.specs.WalksSet.{SizesFit, CanBeTold, WalksSetPlaces}
use Rattle.dvi_out.proofs.Following.{Sets, Follows, quiet, sets_then, sets_quietly, sets_synched_v, same_v, plus_on, minus_on, wrapped_fits}
use Rattle.dvi_out.proofs.WalkSets.{sets_box}
use Rattle.dvi_out.proofs.WalkAt.{frame_at, around_at, along, At, at_next, along_by, at_none}
use Rattle.dvi_out.proofs.WalkLeaders.{BoxLaw}
use Rattle.dvi_out.proofs.WalkNodes.{InList, NodeLaw, no_law, moved_in, character_in, special_in}
use Rattle.dvi_out.proofs.WalkLists.{fill_plain, fill_leader, rule_in, space_is, skip_at, zero_fits}

-- ---- lists

abbrev LawOf : (ℕ → ℕ → ℤ) → Node → Type 0
LawOf widths node = NodeLaw widths (printed_node node) (laid_node node)

module _ (widths : ℕ → ℕ → ℤ) (start : Reader) (vertical : Bool) (width height depth : ℤ) (fits : FitsSigned w32 width) (set : GlueSet) (h v : ℤ) where
  list_sets : (list : List Node) → AllByRecursion (LawOf widths) list → (front : List Laid) (w : Walk) → At vertical set h v front w →
      Sets widths start w (each_printed (frame_at vertical width height depth set h v) w (map printed_node list))
      (each_placed (around_at vertical width height depth set h v) front (map laid_node list))
  unfolding each_printed
  list_sets [] laws front w at = quiet widths start w w refl refl refl
  list_sets (node ∷ list) laws front w at =
      let frame = frame_at vertical width height depth set h v in
      let around = around_at vertical width height depth set h v in
      let l = laid_node node in
      let x = (printed_node node).in_list frame w in
      let one = laws.0.in_list start vertical width height depth fits set h v front w at in
      sets_then widths start w x (each_printed frame x (map printed_node list))
      (l.holds around (along vertical set front) (along vertical set (front ++ l ∷ [])))
      (each_placed around (front ++ l ∷ []) (map laid_node list)) one.sets
      (list_sets list laws.1 (front ++ l ∷ []) x one.at)

-- ---- boxes

abbrev level_of : Bool → ℤ → ℤ → ℤ
level_of vertical v height = if vertical then v -ℤ height else v

level_is : (vertical : Bool) (height v place : ℤ) → place ≡ modulo v →
    (if vertical then minus place height else place) ≡ modulo (level_of vertical v height)
level_is true height v place is = minus_on place height v is
level_is false height v place is = is

abbrev frame_with : BoxNode (List Node) → ℤ → ℤ → Frame
frame_with b edge level =
    record { vertical = b.vertical; width = b.width; height = b.height; depth = b.depth; set = b.set; left_edge = edge; level = level }

-- the list of a box, from the box's edge and baseline
box_list_sets : (widths : ℕ → ℕ → ℤ) (b : BoxNode (List Node)) → AllByRecursion (LawOf widths) b.list → FitsSigned w32 b.width →
    (start : Reader) (h v : ℤ) (w : Walk) → w.h ≡ modulo h → w.v ≡ modulo v →
    Sets widths start w (list_printed (box_map printed_node b) w) (box_placed (box_map laid_node b) h v)
unfolding list_printed
box_list_sets widths b laws fits start h v w is_h is_v =
    let level = if b.vertical then minus w.v b.height else w.v in
    let is_level : level ≡ modulo (level_of b.vertical v b.height) = level_is b.vertical b.height v w.v is_v in
    let begun = list_begun (box_map printed_node b) w in
    let frame = frame_at b.vertical b.width b.height b.depth b.set h (level_of b.vertical v b.height) in
    let same : frame_of (box_map printed_node b) w ≡ frame =
    ap (λ (z : ℤ). frame_with b z level) is_h ∙ ap (λ (z : ℤ). frame_with b (modulo h) z) is_level in
    let new = box_placed (box_map laid_node b) h v in
    let at = at_none b.vertical b.set h (level_of b.vertical v b.height) begun is_h is_level refl refl in
    let sets = list_sets widths start b.vertical b.width b.height b.depth fits b.set h (level_of b.vertical v b.height) b.list laws [] begun at in
    subst (λ (f : Frame). Sets widths start w (each_printed f begun (map printed_node b.list)) new) (sym same)
    (sets_then widths start w begun (each_printed frame begun (map printed_node b.list)) [] new (quiet widths start w begun refl refl refl) sets)

box_law : (widths : ℕ → ℕ → ℤ) (b : BoxNode (List Node)) → AllByRecursion (LawOf widths) b.list → FitsSigned w32 b.width →
    BoxLaw widths (box_printed (box_map printed_node b)) (box_placed (box_map laid_node b))
unfolding box_printed entered
box_law widths b laws fits = record {
  sets = λ start h v w is_h is_v.
      sets_box widths start w (list_printed (box_map printed_node b) (entered w)) (box_placed (box_map laid_node b) h v)
      (box_list_sets widths b laws fits start h v (entered w) is_h is_v);
  sum = λ w. refl;
  grown = λ w. refl;
}

no_things : (around : Around) (front : List Laid) (list : List Node) → is_empty (map printed_node list) ≡ true →
    each_placed around front (map laid_node list) ≡ []
no_things around front [] is = refl
no_things around front (node ∷ list) is = cc

three_sum : (a b c d : ℤ) → ((a +ℤ b) +ℤ c) +ℤ d ≡ a +ℤ (b +ℤ (c +ℤ d))
three_sum a b c d = omega (arith, ints)

two_sum : (a b c : ℤ) → (a +ℤ b) +ℤ c ≡ a +ℤ (b +ℤ c)
two_sum a b c = omega (arith, ints)

module _ (widths : ℕ → ℕ → ℤ) (start : Reader) (width height depth : ℤ) (set : GlueSet) (h v : ℤ) (b : BoxNode (List Node))
    (law : BoxLaw widths (box_printed (box_map printed_node b)) (box_placed (box_map laid_node b))) where
  -- where the walk is behind a box
  below : (place : ℤ) (front : List Laid) (l : Laid) → place ≡ modulo (v +ℤ along true set front) → l.down ≡ b.height +ℤ b.depth →
      l.part set ≡ pos 0 → plus (plus place b.height) b.depth ≡ modulo (v +ℤ along true set (front ++ l ∷ []))
  below place front l is down none =
      plus_on (plus place b.height) b.depth ((v +ℤ along true set front) +ℤ b.height) (plus_on place b.height (v +ℤ along true set front) is)
      ∙ ap (int_wrap w32) (three_sum v (along true set front) b.height b.depth)
      ∙ ap (λ (z : ℤ). modulo (v +ℤ z)) (sym (along_by true set front l (b.height +ℤ b.depth) down none))

  beside : (place : ℤ) (front : List Laid) (l : Laid) → place ≡ modulo (h +ℤ along false set front) → l.across ≡ b.width →
      l.part set ≡ pos 0 → plus place b.width ≡ modulo (h +ℤ along false set (front ++ l ∷ []))
  beside place front l is across none =
      plus_on place b.width (h +ℤ along false set front) is
      ∙ ap (int_wrap w32) (two_sum h (along false set front) b.width)
      ∙ ap (λ (z : ℤ). modulo (h +ℤ z)) (sym (along_by false set front l b.width across none))

  empty_in : (vertical : Bool) (front : List Laid) (l : Laid) (w : Walk) → At vertical set h v front w → l.across ≡ b.width →
      l.down ≡ b.height +ℤ b.depth → l.part set ≡ pos 0 →
      InList widths start vertical set h v front l w (past_box (frame_at vertical width height depth set h v) (sizes_of b) w) []
  unfolding past_box
  empty_in true front l w at across down none =
      let x = to_v (plus (plus w.v b.height) b.depth) w in
      record {
        sets = quiet widths start w x refl refl refl;
        at = at_next true set h v front l w x at none refl refl at.at_h (below w.v front l at.at_v down none);
      }
  empty_in false front l w at across down none =
      let x = to_h (plus w.h b.width) w in
      record {
        sets = quiet widths start w x refl refl refl;
        at = at_next false set h v front l w x at none refl refl (beside w.h front l at.at_h across none) at.at_v;
      }

  whole_in : (vertical : Bool) (front : List Laid) (l : Laid) (w : Walk) → At vertical set h v front w → l.across ≡ b.width →
      l.down ≡ b.height +ℤ b.depth → l.part set ≡ pos 0 →
      InList widths start vertical set h v front l w
      (behind_box (frame_at vertical width height depth set h v) (sizes_of b) w.h w.v
      (box_printed (box_map printed_node b) (at_box (frame_at vertical width height depth set h v) (sizes_of b) w)))
      (box_laid (box_map laid_node b) (around_at vertical width height depth set h v) (along vertical set front) (along vertical set (front ++ l ∷ [])))
  unfolding at_box behind_box
  whole_in true front l w at across down none =
      let inside = box_printed (box_map printed_node b) in
      let a = to_v (plus w.v b.height) w in
      let c = synched_v a in
      let e = to_h (plus (modulo h) b.shift) c in
      let a_v : a.v ≡ modulo ((v +ℤ along true set front) +ℤ b.height) = plus_on w.v b.height (v +ℤ along true set front) at.at_v in
      let e_h : e.h ≡ modulo (h +ℤ b.shift) = plus_on (modulo h) b.shift h refl in
      let e_v : e.v ≡ modulo ((v +ℤ along true set front) +ℤ b.height) = (same_v a).0.v ∙ a_v in
      let new = box_placed (box_map laid_node b) (h +ℤ b.shift) ((v +ℤ along true set front) +ℤ b.height) in
      let x = to_v (plus (plus w.v b.height) b.depth) (to_h (modulo h) (inside e)) in
      record {
        sets = sets_quietly widths start w (inside e) x new
            (sets_then widths start w e (inside e) [] new
            (sets_then widths start w c e [] []
            (sets_then widths start w a c [] [] (quiet widths start w a refl refl refl) (sets_synched_v widths start a (wrapped_fits a.v ((v +ℤ along true set front) +ℤ b.height) a_v)))
            (quiet widths start c e refl refl refl))
            (law.sets start (h +ℤ b.shift) ((v +ℤ along true set front) +ℤ b.height) e e_h e_v))
            (quiet widths start (inside e) x refl refl refl);
        at = at_next true set h v front l w x at none (law.sum e ∙ (same_v a).0.sum) (law.grown e ∙ (same_v a).0.grown) refl
            (below w.v front l at.at_v down none);
      }
  whole_in false front l w at across down none =
      let inside = box_printed (box_map printed_node b) in
      let e = to_v (plus (modulo v) b.shift) w in
      let e_v : e.v ≡ modulo (v +ℤ b.shift) = plus_on (modulo v) b.shift v refl in
      let new = box_placed (box_map laid_node b) (h +ℤ along false set front) (v +ℤ b.shift) in
      let x = to_h (plus w.h b.width) (to_v (modulo v) (inside e)) in
      record {
        sets = sets_quietly widths start w (inside e) x new
            (sets_then widths start w e (inside e) [] new (quiet widths start w e refl refl refl)
            (law.sets start (h +ℤ along false set front) (v +ℤ b.shift) e at.at_h e_v))
            (quiet widths start (inside e) x refl refl refl);
        at = at_next false set h v front l w x at none (law.sum e) (law.grown e) (beside w.h front l at.at_h across none) refl;
      }

  nothing_in : (vertical : Bool) (begins ends : ℤ) → is_empty (map printed_node b.list) ≡ true →
      box_laid (box_map laid_node b) (around_at vertical width height depth set h v) begins ends ≡ []
  nothing_in true begins ends is = no_things (around_at b.vertical b.width b.height b.depth b.set (h +ℤ b.shift) (level_of b.vertical ((v +ℤ begins) +ℤ b.height) b.height)) [] b.list is
  nothing_in false begins ends is = no_things (around_at b.vertical b.width b.height b.depth b.set (h +ℤ begins) (level_of b.vertical (v +ℤ b.shift) b.height)) [] b.list is

  box_by : (vertical : Bool) (front : List Laid) (l : Laid) (w : Walk) (empty : Bool) → is_empty (map printed_node b.list) ≡ empty →
      At vertical set h v front w → l.across ≡ b.width → l.down ≡ b.height +ℤ b.depth → l.part set ≡ pos 0 →
      InList widths start vertical set h v front l w
      (if empty then past_box (frame_at vertical width height depth set h v) (sizes_of b) w
      else behind_box (frame_at vertical width height depth set h v) (sizes_of b) w.h w.v
      (box_printed (box_map printed_node b) (at_box (frame_at vertical width height depth set h v) (sizes_of b) w)))
      (box_laid (box_map laid_node b) (around_at vertical width height depth set h v) (along vertical set front) (along vertical set (front ++ l ∷ [])))
  box_by vertical front l w true is at across down none =
      subst (λ (g : List Placed). InList widths start vertical set h v front l w (past_box (frame_at vertical width height depth set h v) (sizes_of b) w) g)
      (sym (nothing_in vertical (along vertical set front) (along vertical set (front ++ l ∷ [])) is)) (empty_in vertical front l w at across down none)
  box_by vertical front l w false is at across down none = whole_in vertical front l w at across down none

  box_in : (vertical : Bool) (front : List Laid) (l : Laid) (w : Walk) → At vertical set h v front w → l.across ≡ b.width →
      l.down ≡ b.height +ℤ b.depth → l.part set ≡ pos 0 →
      InList widths start vertical set h v front l w (with_box (frame_at vertical width height depth set h v) (box_map printed_node b) w)
      (box_laid (box_map laid_node b) (around_at vertical width height depth set h v) (along vertical set front) (along vertical set (front ++ l ∷ [])))
  unfolding with_box
  box_in vertical front l w at across down none = box_by vertical front l w (is_empty (map printed_node b.list)) refl at across down none

-- ---- each node

boxed_law : (widths : ℕ → ℕ → ℤ) (b : BoxNode (List Node)) → AllByRecursion (LawOf widths) b.list → FitsSigned w32 b.width →
    NodeLaw widths (print_step (map-Node Node Printed printed_node (Node-F.Boxed b))) (lay (map-Node Node Laid laid_node (Node-F.Boxed b)))
unfolding print_step
boxed_law widths b laws fits =
    let law = box_law widths b laws fits in
    record {
      in_list = λ start vertical width height depth wide set h v front w at.
          box_in widths start width height depth set h v b law vertical front (lay (map-Node Node Laid laid_node (Node-F.Boxed b))) w at refl refl refl;
      leader = (record { width = refl; height = refl; depth = refl; shift = refl }, law);
    }

glued_h : (set : GlueSet) (glue : Glue) (w : Walk) → (glued set glue w).h ≡ w.h
unfolding glued
glued_h set glue w = refl

glued_v : (set : GlueSet) (glue : Glue) (w : Walk) → (glued set glue w).v ≡ w.v
unfolding glued
glued_v set glue w = refl

glue_long : (vertical : Bool) (glue : Glue) (holds : Around → ℤ → ℤ → List Placed) →
    length_along vertical (place.laid glue.width glue.width (place.part_of_glue glue) holds place.Nothing) ≡ glue.width
glue_long true glue holds = refl
glue_long false glue holds = refl

skip_law : (widths : ℕ → ℕ → ℤ) (glue : Glue) (name : ℕ) (leaders : Option (Leaders Node)) → AllByRecursion (LawOf widths) (item_of leaders) →
    NodeLaw widths (print_step (map-Node Node Printed printed_node (Node-F.Skip (record { glue = glue; name = name; leaders = leaders }))))
    (lay (map-Node Node Laid laid_node (Node-F.Skip (record { glue = glue; name = name; leaders = leaders }))))
unfolding print_step
skip_law widths glue name None laws = record {
  in_list = λ start vertical width height depth wide set h v front w at.
      let l = lay (map-Node Node Laid laid_node (Node-F.Skip (record { glue = glue; name = name; leaders = None }))) in
      let space = space_of set glue w in
      skip_at widths start width height depth wide set h v vertical glue front l w
      (spell.advanced (frame_at vertical width height depth set h v) space (glued set glue w)) [] at refl
      (fill_plain widths start width height depth wide set h v vertical (along vertical set front) (along vertical set (front ++ l ∷ [])) space (glued set glue w)
      (glued_h set glue w ∙ at.at_h) (glued_v set glue w ∙ at.at_v)
      (space_is widths start width height depth wide set h v vertical glue front l w at (glue_long vertical glue (place.leaders_between None)) refl));
  leader = tt;
}
skip_law widths glue name (Some leaders) laws = record {
  in_list = λ start vertical width height depth wide set h v front w at.
      let l = lay (map-Node Node Laid laid_node (Node-F.Skip (record { glue = glue; name = name; leaders = Some leaders }))) in
      let space = space_of set glue w in
      let frame = frame_at vertical width height depth set h v in
      let p = printed_node leaders.item in
      let f = laid_node leaders.item in
      skip_at widths start width height depth wide set h v vertical glue front l w
      (spell.with_leader frame space leaders.how p.leader (glued set glue w))
      (place.filled f.filler leaders.how (around_at vertical width height depth set h v) (along vertical set front) (along vertical set (front ++ l ∷ []))) at refl
      (fill_leader widths start width height depth wide set h v leaders.how p.leader f.filler laws.0.leader vertical (along vertical set front) (along vertical set (front ++ l ∷ [])) space (glued set glue w)
      (glued_h set glue w ∙ at.at_h) (glued_v set glue w ∙ at.at_v)
      (space_is widths start width height depth wide set h v vertical glue front l w at (glue_long vertical glue l.holds) refl));
  leader = tt;
}

whatsit_law : (widths : ℕ → ℕ → ℤ) (w : Whatsit) →
    NodeLaw widths (print_step (Node-F.Whatsit w)) (lay (Node-F.Whatsit w))
unfolding print_step with_whatsit
whatsit_law widths (whatsit.Open stream name) = no_law widths
whatsit_law widths (whatsit.Write stream text) = no_law widths
whatsit_law widths (whatsit.Close stream) = no_law widths
whatsit_law widths (whatsit.Special bytes) = record {
  in_list = λ start vertical w2 h2 d2 wide set h v front w at.
      special_in widths start w2 h2 d2 set h v bytes vertical front (lay (Node-F.Whatsit (whatsit.Special bytes))) w at refl refl refl;
  leader = tt;
}

layer_law : (widths : ℕ → ℕ → ℤ) (layer : Node-F Node) → CanBeTold widths layer → AllByRecursion (LawOf widths) (inside layer) →
    NodeLaw widths (print_step (map-Node Node Printed printed_node layer)) (lay (map-Node Node Laid laid_node layer))
unfolding print_step
layer_law widths (Node-F.Char font byte width height depth italic) told laws = record {
  in_list = λ start vertical w2 h2 d2 wide set h v front w at.
      character_in widths start w2 h2 d2 set h v font byte width vertical front
      (lay (map-Node Node Laid laid_node (Node-F.Char font byte width height depth italic))) w at refl refl refl told;
  leader = tt;
}
layer_law widths (Node-F.Lig lig) told laws = record {
  in_list = λ start vertical w2 h2 d2 wide set h v front w at.
      character_in widths start w2 h2 d2 set h v lig.font lig.byte lig.width vertical front
      (lay (map-Node Node Laid laid_node (Node-F.Lig lig))) w at refl refl refl told;
  leader = tt;
}
layer_law widths (Node-F.Boxed b) told laws = boxed_law widths b laws told
layer_law widths (Node-F.Rule wide tall deep) told laws = record {
  in_list = λ start vertical w2 h2 d2 fits set h v front w at.
      rule_in widths start w2 h2 d2 fits set h v wide tall deep vertical front
      (lay (map-Node Node Laid laid_node (Node-F.Rule wide tall deep))) w at refl refl refl told;
  leader = (refl, refl, refl, told);
}
layer_law widths (Node-F.Skip skip) told laws = skip_law widths skip.glue skip.name skip.leaders laws
layer_law widths (Node-F.Kern width how) told laws = record {
  in_list = λ start vertical w2 h2 d2 wide set h v front w at.
      moved_in widths start w2 h2 d2 set h v vertical front (lay (map-Node Node Laid laid_node (Node-F.Kern width how))) w width at refl refl refl;
  leader = tt;
}
layer_law widths (Node-F.Penalty penalty) told laws = no_law widths
layer_law widths (Node-F.Disc disc) told laws = no_law widths
layer_law widths (Node-F.Mark mark) told laws = no_law widths
layer_law widths (Node-F.Insert insert) told laws = no_law widths
layer_law widths (Node-F.Adjust list) told laws = no_law widths
layer_law widths (Node-F.Whatsit whatsit) told laws = whatsit_law widths whatsit

-- ---- the tree

abbrev Claim : (ℕ → ℕ → ℤ) → Node → Type 0
Claim widths node = every-Node (CanBeTold widths) node → LawOf widths node

with_proofs : (P : Node → Type 0) (pairs : List ((node : Node) × P node)) → AllByRecursion P (map (λ e. e.0) pairs)
with_proofs P [] = tt
with_proofs P (pair ∷ pairs) = (pair.1, with_proofs P pairs)

inside_with_proofs : (P : Node → Type 0) (node : Node-F ((n : Node) × P n)) →
    AllByRecursion P (inside (map-Node ((n : Node) × P n) Node (λ e. e.0) node))
inside_with_proofs P node = subst (AllByRecursion P) (sym (inside-map (λ e. e.0) node)) (with_proofs P (inside node))

told_here : (widths : ℕ → ℕ → ℤ) (layer : Node-F Node) → every-Node (CanBeTold widths) (roll-Node layer) → CanBeTold widths layer
told_here widths layer told = subst (CanBeTold widths) (out-roll-Node layer) (every_here-Node (CanBeTold widths) (roll-Node layer) told)

told_inside : (widths : ℕ → ℕ → ℤ) (layer : Node-F Node) → every-Node (CanBeTold widths) (roll-Node layer) →
    AllByRecursion (every-Node (CanBeTold widths)) (inside layer)
told_inside widths layer told =
    let held = every_held-Node (CanBeTold widths) (roll-Node layer) told in
    subst (λ z. AllByRecursion (every-Node (CanBeTold widths)) (inside z)) (held.1 ∙ out-roll-Node layer)
    (inside_with_proofs (every-Node (CanBeTold widths)) held.0)

each_claim : (widths : ℕ → ℕ → ℤ) (list : List Node) → AllByRecursion (every-Node (CanBeTold widths)) list → AllByRecursion (Claim widths) list →
    AllByRecursion (LawOf widths) list
each_claim widths [] told claims = tt
each_claim widths (node ∷ list) told claims = (claims.0 told.0, each_claim widths list told.1 claims.1)

rolled_law : (widths : ℕ → ℕ → ℤ) (layer : Node-F Node) → every-Node (CanBeTold widths) (roll-Node layer) →
    AllByRecursion (Claim widths) (inside layer) → LawOf widths (roll-Node layer)
rolled_law widths layer told claims =
    let law = layer_law widths layer (told_here widths layer told) (each_claim widths (inside layer) (told_inside widths layer told) claims) in
    subst (λ (l : Laid). NodeLaw widths (printed_node (roll-Node layer)) l) (sym (fold-roll-Node Laid lay layer))
    (subst (λ (p : Printed). NodeLaw widths p (lay (map-Node Node Laid laid_node layer))) (sym (fold-roll-Node Printed print_step layer)) law)

node_law : (widths : ℕ → ℕ → ℤ) (node : Node) → Claim widths node
node_law widths = ind-Node (Claim widths) (λ layer children is told.
    rolled_law widths layer told (subst (λ z. AllByRecursion (Claim widths) (inside z)) is (inside_with_proofs (Claim widths) children)))

all_laws : (widths : ℕ → ℕ → ℤ) (list : List Node) → AllByRecursion (every-Node (CanBeTold widths)) list → AllByRecursion (LawOf widths) list
all_laws widths [] told = tt
all_laws widths (node ∷ list) told = (node_law widths node told.0, all_laws widths list told.1)

-- ---- the page

all_from : (P : Command → Type 0) (cs : List Command) → AllByRecursion P cs → All P cs
all_from P [] all k d below = absurd (omega arith)
all_from P (c ∷ cs) all zero d below = all.0
all_from P (c ∷ cs) all (suc k) d below = all_from P cs all.1 k d (omega arith)

pub walks_set_places : WalksSetPlaces
unfolding page_walk all_obeyed
walks_set_places widths page start told =
    let b = page.shipped in
    let w = walk page.offset_h (plus b.height page.offset_v) (pos 0) (pos 0) (pos 0) (pos 0) 0 0 [] in
    let r = begin_page page.counts start in
    let laws = all_laws widths b.list (recursion_from_All (every-Node (CanBeTold widths)) b.list told.nodes) in
    let sets = box_list_sets widths b laws told.width r page.offset_h (b.height +ℤ page.offset_v) w
    (sym (int_wrap_fits w32 page.offset_h told.offset)) refl in
    let begins : Follows widths r w r = record { obeys = refl; can = tt; h = refl; v = refl; h_fits = zero_fits; v_fits = zero_fits } in
    let did = sets r begins in
    record {
      after = did.after;
      is = did.follows.obeys;
      can = all_from SizesFit (page_walk page).commands did.follows.can;
      items = did.items;
      counts = did.counts;
      pages = did.pages;
    }
