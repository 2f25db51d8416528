-- A register that a tree doesn't know has its value of the start.
use Rattle.std.proofs.Common.{◌≡◌, List, [], Bool, true, false, refl, ap, sym, ◌∙◌}
use Rattle.std.specs.Prelude.{ℤ, pos, nat_lt, ◌||◌, not, Option, None, Some, if◌then◌else◌}
use Rattle.std.proofs.lemmas.Bool.{false≢true}
use Rattle.scaled.specs.declared.spacing.Glue.{Glue}
use Rattle.tokens.specs.declared.token.Token.{Token}
use Rattle.nodes.specs.declared.boxes.BoxNode.{BoxNode}
use Rattle.nodes.specs.declared.node.Node.{Node}
use Rattle.sparse_regs.specs.declared.node.Register.{Register}
use Rattle.sparse_regs.specs.Registers.{is_kept, value_if_kept}
use Rattle.save_groups.specs.declared.entry.Entry.{Entry}
use Rattle.save_groups.specs.StartValues.{zero_glue}
use Rattle.save_groups.specs.Entries.{fresh}
use Rattle.save_groups.specs.InTrees.{entry_or, same_number_entry, same_glue_entry, same_list_entry, same_box_entry}
use Rattle.save_groups.specs.SlotLaws.{number-equal, glue-equal, list-equal, box-equal}

found : {A : Type 0} (start : A) (is_initial : Entry A → Bool) → ((x : Entry A) → is_initial x ≡ true → x ≡ fresh start)
    → (r : Register (Entry A)) (got : Option (Entry A)) → got ≡ value_if_kept is_initial r → entry_or start got ≡ r.value
found {A} start is_initial starts r got is = by_test (is_kept is_initial r) refl (nat_lt 0 r.holders) refl
  where
    by_test : (b : Bool) → is_kept is_initial r ≡ b → (c : Bool) → nat_lt 0 r.holders ≡ c → entry_or start got ≡ r.value
    by_test true kept c e = ap (entry_or start) (is ∙ ap (λ b. if b then Some r.value else None) kept)
    by_test false unkept true e = absurd (false≢true (sym unkept ∙ ap (λ c. c || not (is_initial r.value)) e))
    by_test false unkept false e =
        ap (entry_or start) (is ∙ ap (λ b. if b then Some r.value else None) unkept)
        ∙ sym (starts r.value (initial (is_initial r.value) refl (sym (ap (λ c. c || not (is_initial r.value)) e) ∙ unkept)))
      where
        initial : (b : Bool) → is_initial r.value ≡ b → not (is_initial r.value) ≡ false → is_initial r.value ≡ true
        initial true s n = s
        initial false s n = absurd (false≢true (sym n ∙ ap not s))

pub found-number : (r : Register (Entry ℤ)) (got : Option (Entry ℤ)) → got ≡ value_if_kept (λ x. same_number_entry x (fresh (pos 0))) r → entry_or (pos 0) got ≡ r.value
found-number r got is = found (pos 0) (λ x. same_number_entry x (fresh (pos 0))) (λ x h. number-equal x (fresh (pos 0)) h) r got is

pub found-glue : (r : Register (Entry Glue)) (got : Option (Entry Glue)) → got ≡ value_if_kept (λ x. same_glue_entry x (fresh zero_glue)) r → entry_or zero_glue got ≡ r.value
found-glue r got is = found zero_glue (λ x. same_glue_entry x (fresh zero_glue)) (λ x h. glue-equal x (fresh zero_glue) h) r got is

pub found-list : (r : Register (Entry (List Token))) (got : Option (Entry (List Token))) → got ≡ value_if_kept (λ x. same_list_entry x (fresh [])) r → entry_or [] got ≡ r.value
found-list r got is = found [] (λ x. same_list_entry x (fresh [])) (λ x h. list-equal x (fresh []) h) r got is

pub found-box : (r : Register (Entry (Option (BoxNode (List Node))))) (got : Option (Entry (Option (BoxNode (List Node))))) → got ≡ value_if_kept (λ x. same_box_entry x (fresh None)) r
    → entry_or None got ≡ r.value
found-box r got is = found None (λ x. same_box_entry x (fresh None)) (λ x h. box-equal x (fresh None) h) r got is
