-- What a writer has taken, portion after portion.
use Rattle.std.proofs.Common.{◌≡◌, ℕ, ◌-◌, List, ◌++◌, Option, length, take, drop, sym, ap, ◌∙◌, subst, append_assoc, take-append-drop}
use Rattle.std.proofs.Math.Seq.{take-append_seam}
use Rattle.std.proofs.lemmas.List.{take_rest}
use Rattle.std.specs.Io.KnownBytes.{Appends}

-- what was done and a further portion stand before what is left then
pub more_done : (all done rest : List ℕ) (n : ℕ) → all ≡ done ++ rest → all ≡ (done ++ take n rest) ++ drop n rest
more_done all done rest n e = e ∙ ap (λ l. done ++ l) (sym (take-append-drop n rest)) ∙ sym (append_assoc done (take n rest) (drop n rest))

pub more_done_of : (all done rest : List ℕ) (n : ℕ) → all ≡ done ++ rest → all ≡ (done ++ take n rest) ++ take (length rest - n) (drop n rest)
more_done_of all done rest n e = more_done all done rest n e ∙ ap (λ l. (done ++ take n rest) ++ l) (sym (take_rest rest n))

-- what was done is a first part
pub took_part : (old new : Option (List ℕ)) (all done rest : List ℕ) → all ≡ done ++ rest → Appends old new done → (n : ℕ) × Appends old new (take n all)
took_part old new all done rest e h =
    (length done, subst (Appends old new) (sym (ap (take (length done)) e ∙ take-append_seam done rest)) h)
