-- A text that grew by three parts.
use Rattle.std.proofs.Common.{◌≡◌, ℕ, List, ◌++◌, ◌∙◌, ap, append_assoc}

pub three_parts : (text first second third p q r : List ℕ) → first ≡ text ++ p → second ≡ first ++ q → third ≡ second ++ r
    → third ≡ text ++ ((p ++ q) ++ r)
three_parts text first second third p q r one two three =
    three ∙ ap (λ t. t ++ r) (two ∙ ap (λ t. t ++ q) one ∙ append_assoc text p q) ∙ append_assoc text (p ++ q) r
