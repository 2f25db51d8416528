-- Keys that the test calls the same are equal, and what one changed entry does to an environment.
use Rattle.std.proofs.Common.{◌≡◌, Bool, true, false, refl, ap, sym, ◌∙◌, subst}
use Rattle.std.specs.Prelude.{◌==◌, if◌then◌else◌}
use Rattle.std.proofs.Math.Path.{fun_ext}
use Rattle.std.proofs.lemmas.Bool.{and_from, and_parts, eq-eqb, eqb-true, false≢true, false_from_ne_true}
use Rattle.tokens.specs.Meaning.{same_reg_kind, same_reg_kind-equal, same_reg_kind-refl}
use Rattle.save_groups.specs.declared.key.Key.{Key}
use Rattle.save_groups.specs.declared.key.Key.TheVariants.{Register, Parameter, Code, Name, Active, CurrentFont, Family, Shape, Penalties}
use Rattle.save_groups.specs.declared.value.Value.{Value}
use Rattle.save_groups.specs.declared.entry.Entry.{Entry}
use Rattle.save_groups.specs.Keys.{same_key}
use Rattle.save_groups.specs.Environments.{Environment, updated}

pub same_key-equal : (x y : Key) → same_key x y ≡ true → x ≡ y
same_key-equal (Register kind number) (Register k n) h =
    let p = and_parts (same_reg_kind kind k) (number == n) h in
    let first : kind ≡ k = same_reg_kind-equal kind k p.0 in
    let second : number ≡ n = eqb-true number n p.1 in
    cc
same_key-equal (Parameter place) (Parameter p) h = ap Parameter (eqb-true place p h)
same_key-equal (Code table byte) (Code t b) h =
    let p = and_parts (table == t) (byte == b) h in
    let first : table ≡ t = eqb-true table t p.0 in
    let second : byte ≡ b = eqb-true byte b p.1 in
    cc
same_key-equal (Name id) (Name i) h = ap (λ n. Name (record { 0 = n })) (eqb-true id.0 i.0 h)
same_key-equal (Active byte) (Active b) h = ap Active (eqb-true byte b h)
same_key-equal CurrentFont CurrentFont h = refl
same_key-equal (Family size number) (Family s n) h =
    let p = and_parts (size == s) (number == n) h in
    let first : size ≡ s = eqb-true size s p.0 in
    let second : number ≡ n = eqb-true number n p.1 in
    cc
same_key-equal Shape Shape h = refl
same_key-equal (Penalties array) (Penalties a) h = ap Penalties (eqb-true array a h)
same_key-equal _ _ h = cc

pub same_key-refl : (x : Key) → same_key x x ≡ true
same_key-refl (Register kind number) = and_from _ _ (same_reg_kind-refl kind) (eq-eqb number number refl)
same_key-refl (Parameter place) = eq-eqb place place refl
same_key-refl (Code table byte) = and_from _ _ (eq-eqb table table refl) (eq-eqb byte byte refl)
same_key-refl (Name id) = eq-eqb id.0 id.0 refl
same_key-refl (Active byte) = eq-eqb byte byte refl
same_key-refl CurrentFont = refl
same_key-refl (Family size number) = and_from _ _ (eq-eqb size size refl) (eq-eqb number number refl)
same_key-refl Shape = refl
same_key-refl (Penalties array) = eq-eqb array array refl

pub same_key-sym : (x y : Key) (b : Bool) → same_key x y ≡ b → same_key y x ≡ b
same_key-sym x y true h = let P : Key → Type 0 = λ z. same_key z x ≡ true in subst P (same_key-equal x y h) (same_key-refl x)
same_key-sym x y false h =
    false_from_ne_true _ (λ t. false≢true (sym h ∙ (let P : Key → Type 0 = λ z. same_key z y ≡ true in subst P (same_key-equal y x t) (same_key-refl y))))

-- the changed entry, and another one
pub updated-at : (key : Key) (x : Entry Value) (env : Environment) → updated key x env key ≡ x
updated-at key x env = ap (λ b. if b then x else env key) (same_key-refl key)

pub updated-same : (key other : Key) (x : Entry Value) (env : Environment) → same_key key other ≡ true → updated key x env other ≡ x
updated-same key other x env h = ap (λ b. if b then x else env other) h

pub updated-other : (key other : Key) (x : Entry Value) (env : Environment) → same_key key other ≡ false → updated key x env other ≡ env other
updated-other key other x env h = ap (λ b. if b then x else env other) h

twice : {A : Type 0} (b : Bool) (x y z : A) → (if b then x else (if b then y else z)) ≡ (if b then x else z)
twice true x y z = refl
twice false x y z = refl

-- the later of two changes of one entry
pub updated-twice : (key : Key) (x y : Entry Value) (env : Environment) → updated key x (updated key y env) ≡ updated key x env
updated-twice key x y env = fun_ext (λ other. twice (same_key key other) x y (env other))

-- an entry put back
pub updated-back : (key : Key) (x : Entry Value) (env : Environment) → updated key (env key) (updated key x env) ≡ env
updated-back key x env = fun_ext (λ other. by_test other (same_key key other) refl)
  where
    by_test : (other : Key) (b : Bool) → same_key key other ≡ b → updated key (env key) (updated key x env) other ≡ env other
    by_test other true h =
        updated-same key other (env key) (updated key x env) h ∙ ap env (same_key-equal key other h)
    by_test other false h =
        updated-other key other (env key) (updated key x env) h ∙ updated-other key other x env h

-- changes of two entries
pub updated-swap : (k j : Key) (x y : Entry Value) (env : Environment) → same_key k j ≡ false → updated k x (updated j y env) ≡ updated j y (updated k x env)
updated-swap k j x y env differ = fun_ext (λ other. by_tests other (same_key k other) (same_key j other) refl refl)
  where
    by_tests : (other : Key) (b c : Bool) → same_key k other ≡ b → same_key j other ≡ c → updated k x (updated j y env) other ≡ updated j y (updated k x env) other
    by_tests other true true p q =
        absurd (false≢true (sym differ ∙ (let P : Key → Type 0 = λ z. same_key k z ≡ true in subst P (sym (same_key-equal j other q)) p)))
    by_tests other true false p q =
        updated-same k other x (updated j y env) p ∙ sym (updated-other j other y (updated k x env) q ∙ updated-same k other x env p)
    by_tests other false true p q =
        updated-other k other x (updated j y env) p ∙ updated-same j other y env q ∙ sym (updated-same j other y (updated k x env) q)
    by_tests other false false p q =
        updated-other k other x (updated j y env) p ∙ updated-other j other y env q ∙ sym (updated-other j other y (updated k x env) q ∙ updated-other k other x env p)
