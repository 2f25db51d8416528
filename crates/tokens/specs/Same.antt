-- Two tests of one fact give one answer: how a comparison that is proved to say whether two values are
-- equal is the comparison that definitions compute.
use Rattle.std.specs.Prelude.{◌≡◌, Bool, true, false, ◌↔◌, IsTrue, refl}
use Rattle.std.proofs.Common.{sym}
use Rattle.std.proofs.lemmas.Bool.{false_from_ne_true, false≢true}

pub same_answer : (b c : Bool) (P : Type 0) → (IsTrue b ↔ P) → (IsTrue c ↔ P) → b ≡ c
same_answer true c P h k = sym (k.1 (h.0 refl))
same_answer false c P h k = sym (false_from_ne_true c (λ t. false≢true (h.1 (k.0 t))))
