-- Entries that are the same, in either order, are equal; a box with another size is no other void one.
use Rattle.std.proofs.Common.{◌≡◌, ℕ, List, Bool, true, false, refl, ap, sym, ◌∙◌, subst}
use Rattle.std.specs.Prelude.{ℤ, ◌==◌, ◌&&◌, Option, None, Some}
use Rattle.std.specs.Ordering.{int_eq}
use Rattle.std.proofs.lemmas.Bool.{and_parts, eqb-true, eq-eqb, false≢true, and_from}
use Rattle.std.proofs.lemmas.Bool.Decides.{Decides-int_eq}
use Rattle.scaled.specs.declared.spacing.Glue.{Glue}
use Rattle.scaled.specs.declared.spacing.Order.{Order}
use Rattle.scaled.specs.declared.spacing.Order.TheVariants.{Normal, Fil, Fill, Filll}
use Rattle.scaled.specs.Glue.{same_glue, same_order}
use Rattle.tokens.specs.declared.token.Token.{Token}
use Rattle.tokens.specs.TokenList.{same_tokens, same_tokens-equal, same_tokens-refl}
use Rattle.nodes.specs.declared.boxes.BoxNode.{BoxNode}
use Rattle.nodes.specs.declared.node.Node.{Node}
use Rattle.save_groups.specs.declared.entry.Entry.{Entry}
use Rattle.save_groups.specs.Values.{are_void}
use Rattle.save_groups.specs.Entries.{fresh}
use Rattle.save_groups.specs.InTrees.{same_number_entry, same_glue_entry, same_list_entry, same_box_entry, sized_box, sized_entry}

-- a test that holds of equal values alone, and of each with itself, is symmetric
same_both : {A : Type 0} (test : A → A → Bool) → ((x y : A) → test x y ≡ true → x ≡ y) → ((x : A) → test x x ≡ true) → (x y : A) → test x y ≡ test y x
same_both {A} test equal itself x y = by_test (test x y) (test y x) refl refl
  where
    by_test : (b c : Bool) → test x y ≡ b → test y x ≡ c → test x y ≡ test y x
    by_test true c p q = p ∙ sym (turned (equal x y p))
      where
        turned : x ≡ y → test y x ≡ true
        turned e = let P : A → Type 0 = λ z. test z x ≡ true in subst P e (itself x)
    by_test false true p q = absurd (false≢true (sym p ∙ (let P : A → Type 0 = λ z. test z y ≡ true in subst P (equal y x q) (itself y))))
    by_test false false p q = p ∙ sym q

entry_equal : {A : Type 0} (x y : Entry A) → x.value ≡ y.value → x.level ≡ y.level → x ≡ y
entry_equal {A} x y p q =
    ap (λ v. let e : Entry A = record { value = v; level = x.level } in e) p
    ∙ ap (λ n. let e : Entry A = record { value = y.value; level = n } in e) q

pub number-equal : (x y : Entry ℤ) → same_number_entry x y ≡ true → x ≡ y
number-equal x y h =
    let p = and_parts (int_eq x.value y.value) (x.level == y.level) h in
    entry_equal x y ((Decides-int_eq x.value y.value).0 p.0) (eqb-true _ _ p.1)

number_itself : (x : Entry ℤ) → same_number_entry x x ≡ true
number_itself x = and_from _ _ ((Decides-int_eq x.value x.value).1 refl) (eq-eqb _ _ refl)

pub number-symmetric : (x y : Entry ℤ) → same_number_entry x y ≡ same_number_entry y x
number-symmetric x y = same_both same_number_entry number-equal number_itself x y

order_equal : (x y : Order) → same_order x y ≡ true → x ≡ y
order_equal Normal Normal h = refl
order_equal Fil Fil h = refl
order_equal Fill Fill h = refl
order_equal Filll Filll h = refl
order_equal _ _ h = cc

order_itself : (x : Order) → same_order x x ≡ true
order_itself Normal = refl
order_itself Fil = refl
order_itself Fill = refl
order_itself Filll = refl

glue_of : ℤ → ℤ → Order → ℤ → Order → Glue
glue_of width stretch stretch_order shrink shrink_order =
    record { width = width; stretch = stretch; stretch_order = stretch_order; shrink = shrink; shrink_order = shrink_order }

parts_equal : (x y : Glue) → x.width ≡ y.width → x.stretch ≡ y.stretch → x.stretch_order ≡ y.stretch_order → x.shrink ≡ y.shrink → x.shrink_order ≡ y.shrink_order → x ≡ y
unfolding glue_of
parts_equal x y a b c d e =
    ap (λ v. glue_of v x.stretch x.stretch_order x.shrink x.shrink_order) a
    ∙ ap (λ v. glue_of y.width v x.stretch_order x.shrink x.shrink_order) b
    ∙ ap (λ v. glue_of y.width y.stretch v x.shrink x.shrink_order) c
    ∙ ap (λ v. glue_of y.width y.stretch y.stretch_order v x.shrink_order) d
    ∙ ap (λ v. glue_of y.width y.stretch y.stretch_order y.shrink v) e

glues_equal : (x y : Glue) → same_glue x y ≡ true → x ≡ y
glues_equal x y h =
    let p = and_parts _ (same_order x.shrink_order y.shrink_order) h in
    let q = and_parts _ (int_eq x.shrink y.shrink) p.0 in
    let r = and_parts _ (same_order x.stretch_order y.stretch_order) q.0 in
    let s = and_parts (int_eq x.width y.width) (int_eq x.stretch y.stretch) r.0 in
    parts_equal x y ((Decides-int_eq _ _).0 s.0) ((Decides-int_eq _ _).0 s.1) (order_equal _ _ r.1) ((Decides-int_eq _ _).0 q.1) (order_equal _ _ p.1)

glue_alone : (x : Glue) → same_glue x x ≡ true
glue_alone x =
    and_from _ _ (and_from _ _ (and_from _ _ (and_from _ _
    ((Decides-int_eq x.width x.width).1 refl) ((Decides-int_eq x.stretch x.stretch).1 refl))
    (order_itself x.stretch_order)) ((Decides-int_eq x.shrink x.shrink).1 refl)) (order_itself x.shrink_order)

pub glue-equal : (x y : Entry Glue) → same_glue_entry x y ≡ true → x ≡ y
glue-equal x y h =
    let p = and_parts (same_glue x.value y.value) (x.level == y.level) h in
    entry_equal x y (glues_equal x.value y.value p.0) (eqb-true _ _ p.1)

pub glue-symmetric : (x y : Entry Glue) → same_glue_entry x y ≡ same_glue_entry y x
glue-symmetric x y = same_both same_glue_entry glue-equal (λ z. and_from _ _ (glue_alone z.value) (eq-eqb _ _ refl)) x y

pub list-equal : (x y : Entry (List Token)) → same_list_entry x y ≡ true → x ≡ y
list-equal x y h =
    let p = and_parts (same_tokens x.value y.value) (x.level == y.level) h in
    entry_equal x y (same_tokens-equal x.value y.value p.0) (eqb-true _ _ p.1)

pub list-symmetric : (x y : Entry (List Token)) → same_list_entry x y ≡ same_list_entry y x
list-symmetric x y = same_both same_list_entry list-equal (λ z. and_from _ _ (same_tokens-refl z.value) (eq-eqb _ _ refl)) x y

void_symmetric : (x y : Option (BoxNode (List Node))) → are_void x y ≡ are_void y x
void_symmetric None None = refl
void_symmetric None (Some b) = refl
void_symmetric (Some b) None = refl
void_symmetric (Some b) (Some d) = refl

void_equal : (x y : Option (BoxNode (List Node))) → are_void x y ≡ true → x ≡ y
void_equal None None h = refl
void_equal None (Some b) h = absurd (false≢true h)
void_equal (Some b) None h = absurd (false≢true h)
void_equal (Some b) (Some d) h = absurd (false≢true h)

number_turned : (m n : ℕ) → (m == n) ≡ (n == m)
number_turned m n = same_both (λ a b. a == b) (λ a b h. eqb-true a b h) (λ a. eq-eqb a a refl) m n

pub box-equal : (x y : Entry (Option (BoxNode (List Node)))) → same_box_entry x y ≡ true → x ≡ y
box-equal x y h =
    let p = and_parts (are_void x.value y.value) (x.level == y.level) h in
    entry_equal x y (void_equal x.value y.value p.0) (eqb-true _ _ p.1)

pub box-symmetric : (x y : Entry (Option (BoxNode (List Node)))) → same_box_entry x y ≡ same_box_entry y x
box-symmetric x y =
    ap (λ b. b && (x.level == y.level)) (void_symmetric x.value y.value)
    ∙ ap (λ b. are_void y.value x.value && b) (number_turned x.level y.level)

void_sized : (part : ℕ) (size : ℤ) (x : Option (BoxNode (List Node))) → are_void (sized_box part size x) None ≡ are_void x None
void_sized part size None = refl
void_sized part size (Some b) = refl

pub box-sized : (part : ℕ) (size : ℤ) (x : Entry (Option (BoxNode (List Node)))) → same_box_entry (sized_entry part size x) (fresh None) ≡ same_box_entry x (fresh None)
box-sized part size x = ap (λ b. b && (x.level == 1)) (void_sized part size x.value)
