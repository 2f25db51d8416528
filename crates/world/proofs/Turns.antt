-- One more call on an open file or on the terminal.
use Rattle.std.proofs.Common.{◌≡◌, ℕ, zero, suc, ◌≤◌, refl, arith, length-take, length-append, ◌+◌, ◌-◌, ◌<◌, ◌^◌, List, [], ◌∷◌, ◌++◌, length, take, drop, Ok, Err, Result, sym, ap, subst, ◌∙◌}
use Rattle.std.proofs.lemmas.List.{take_rest}
use Rattle.std.specs.IoError.{error_kind}
use Rattle.std.specs.declared.io.Error.{Error}
use Rattle.std.specs.declared.io.ErrorKind.TheVariants.{Interrupted}
use Rattle.world.specs.declared.disk.Outlet.{Outlet}
use Rattle.world.specs.declared.world.WorldError.{WorldError}
use Rattle.world.specs.declared.world.WorldError.TheVariants.{Failed, OutOfMemory}
use Rattle.world.specs.InTurn.{Gave, gave_more, read_again, ReadsAll, read_all, read_refused, read_too_often, read_without_memory, Took, took_more, wrote_again, WritesAll, wrote_all, write_refused, write_took_nothing, wrote_too_often}
use Rattle.world.specs.Refusal.{refusal_of}
use Rattle.world.specs.Trace.{Call, SameKind, read_from, wrote_to, Did}

pub some_count : (n : ℕ) → (n ≡ 0 → ⊥) → 0 < n
some_count zero h = absurd (h refl)
some_count (suc n) h = omega arith

pub some_portion : (n : ℕ) (xs : List ℕ) → n ≤ length xs → (n ≡ 0 → ⊥) → 0 < length (take n xs)
some_portion n xs fits h = let some = some_count n h in simp length-take (omega arith)

pub one_longer : {A : Type 0} (xs : List A) (x : A) (n : ℕ) → length xs ≡ n → length (xs ++ x ∷ []) ≡ n + 1
one_longer xs x n e = length-append xs (x ∷ []) ∙ ap (λ k. k + 1) e

module _ {S F : Type 0} (did : S → Call F → S → Type 0) (first : S) where
  -- the calls with one behind them
  pub did_more : (at now next : S) (calls : List (Call F)) (call : Call F) → Did did at calls now → did now call next → Did did at (calls ++ call ∷ []) next
  did_more at now next [] call h d = (next, subst (λ s. did s call next) h d, refl)
  did_more at now next (c ∷ calls) call h d = (h.0, h.1, did_more h.0 now next calls call h.2 d)

  -- so many reads were made, and they gave these bytes
  abbrev pub HasRead : F → ℕ → List ℕ → S → F → Type 0
  HasRead file n bytes now after = (calls : List (Call F)) × (length calls ≡ n) × Did did first calls now × Gave file calls bytes after

  -- reading has ended
  abbrev pub EndsReading : F → Result (List ℕ) WorldError → S → Type 0
  EndsReading file result last = (calls : List (Call F)) × Did did first calls last × ReadsAll file calls result

  pub one_more_read : (file : F) (n : ℕ) (bytes portion all : List ℕ) (now next : S) (before after : F) → HasRead file n bytes now before → 0 < length portion → did now (read_from before (Ok portion) after) next → all ≡ bytes ++ portion → HasRead file (n + 1) all next after
  one_more_read file n bytes portion all now next before after h some answered e =
      let call : Call F = read_from before (Ok portion) after in
      (h.0 ++ call ∷ [], one_longer h.0 call n h.1, did_more first now next h.0 call h.2 answered, subst (λ xs. Gave file (h.0 ++ call ∷ []) xs after) (sym e) (gave_more portion after some h.3))

  pub again_read : (file : F) (n : ℕ) (bytes : List ℕ) (now next : S) (before after : F) (error : Error) → HasRead file n bytes now before → did now (read_from before (Err error) after) next → error_kind error ≡ Interrupted → HasRead file (n + 1) bytes next after
  again_read file n bytes now next before after error h answered is =
      let call : Call F = read_from before (Err error) after in
      (h.0 ++ call ∷ [], one_longer h.0 call n h.1, did_more first now next h.0 call h.2 answered, read_again error after is h.3)

  pub read_to_the_end : (file : F) (n : ℕ) (bytes : List ℕ) (now next : S) (before after : F) → HasRead file n bytes now before → n < 2 ^ 40 → did now (read_from before (Ok []) after) next → EndsReading file (Ok bytes) next
  read_to_the_end file n bytes now next before after h below answered =
      let call : Call F = read_from before (Ok []) after in
      (h.0 ++ call ∷ [], did_more first now next h.0 call h.2 answered, read_all after h.3 (subst (λ k. k < 2 ^ 40) (sym h.1) below))

  pub refused_read : (file : F) (n : ℕ) (bytes : List ℕ) (now next : S) (before after : F) (error : Error) (refusal : WorldError) → HasRead file n bytes now before → n < 2 ^ 40 → did now (read_from before (Err error) after) next → (error_kind error ≡ Interrupted → ⊥) → refusal ≡ refusal_of (error_kind error) → EndsReading file (Err refusal) next
  refused_read file n bytes now next before after error refusal h below answered not_interrupted is =
      let call : Call F = read_from before (Err error) after in
      (h.0 ++ call ∷ [], did_more first now next h.0 call h.2 answered, subst (λ r. ReadsAll file (h.0 ++ call ∷ []) (Err r)) (sym is) (read_refused error after not_interrupted h.3 (subst (λ k. k < 2 ^ 40) (sym h.1) below)))

  pub read_in_vain : (file : F) (bytes : List ℕ) (now : S) (before : F) → HasRead file (2 ^ 40) bytes now before → EndsReading file (Err Failed) now
  read_in_vain file bytes now before h = (h.0, h.2, read_too_often h.3 h.1)

  pub unkept_read : (file : F) (n : ℕ) (bytes : List ℕ) (now : S) (before : F) → HasRead file n bytes now before → n ≤ 2 ^ 40 → EndsReading file (Err OutOfMemory) now
  unkept_read file n bytes now before h below = (h.0, h.2, read_without_memory h.3 (subst (λ k. k ≤ 2 ^ 40) (sym h.1) below))

  -- so many writes were made, and they took all but the rest
  abbrev pub HasWritten : Outlet F → List ℕ → ℕ → List ℕ → S → Outlet F → Type 0
  HasWritten outlet bytes n rest now after = (calls : List (Call F)) × (length calls ≡ n) × Did did first calls now × Took outlet bytes calls rest after

  -- writing has ended
  abbrev pub EndsWriting : Outlet F → List ℕ → Result (Unit {0}) WorldError → S → Type 0
  EndsWriting outlet bytes result last = (calls : List (Call F)) × Did did first calls last × WritesAll outlet bytes calls result

  pub one_more_write : (outlet : Outlet F) (bytes : List ℕ) (n count : ℕ) (rest : List ℕ) (now next : S) (before after : Outlet F) → HasWritten outlet bytes n rest now before → 0 < count → did now (wrote_to before rest (Ok count) after) next → SameKind before after → HasWritten outlet bytes (n + 1) (take (length rest - count) (drop count rest)) next after
  one_more_write outlet bytes n count rest now next before after h some answered same =
      let call : Call F = wrote_to before rest (Ok count) after in
      (h.0 ++ call ∷ [], one_longer h.0 call n h.1, did_more first now next h.0 call h.2 answered, subst (λ xs. Took outlet bytes (h.0 ++ call ∷ []) xs after) (sym (take_rest rest count)) (took_more count after same some h.3))

  pub again_written : (outlet : Outlet F) (bytes : List ℕ) (n : ℕ) (rest : List ℕ) (now next : S) (before after : Outlet F) (error : Error) → HasWritten outlet bytes n rest now before → did now (wrote_to before rest (Err error) after) next → SameKind before after → error_kind error ≡ Interrupted → HasWritten outlet bytes (n + 1) rest next after
  again_written outlet bytes n rest now next before after error h answered same is =
      let call : Call F = wrote_to before rest (Err error) after in
      (h.0 ++ call ∷ [], one_longer h.0 call n h.1, did_more first now next h.0 call h.2 answered, wrote_again error after same is h.3)

  pub all_written : (outlet : Outlet F) (bytes : List ℕ) (n : ℕ) (rest : List ℕ) (now : S) (before : Outlet F) → HasWritten outlet bytes n rest now before → n ≤ 2 ^ 40 → rest ≡ [] → EndsWriting outlet bytes (Ok tt) now
  all_written outlet bytes n rest now before h below none =
      (h.0, h.2, wrote_all (subst (λ r. Took outlet bytes h.0 r before) none h.3) (subst (λ k. k ≤ 2 ^ 40) (sym h.1) below))

  pub refused_write : (outlet : Outlet F) (bytes : List ℕ) (n : ℕ) (rest : List ℕ) (now next : S) (before after : Outlet F) (error : Error) (refusal : WorldError) → HasWritten outlet bytes n rest now before → n < 2 ^ 40 → 0 < length rest → did now (wrote_to before rest (Err error) after) next → SameKind before after → (error_kind error ≡ Interrupted → ⊥) → refusal ≡ refusal_of (error_kind error) → EndsWriting outlet bytes (Err refusal) next
  refused_write outlet bytes n rest now next before after error refusal h below some answered same not_interrupted is =
      let call : Call F = wrote_to before rest (Err error) after in
      (h.0 ++ call ∷ [], did_more first now next h.0 call h.2 answered, subst (λ r. WritesAll outlet bytes (h.0 ++ call ∷ []) (Err r)) (sym is) (write_refused error after same not_interrupted some h.3 (subst (λ k. k < 2 ^ 40) (sym h.1) below)))

  pub nothing_written : (outlet : Outlet F) (bytes : List ℕ) (n : ℕ) (rest : List ℕ) (now next : S) (before after : Outlet F) → HasWritten outlet bytes n rest now before → n < 2 ^ 40 → 0 < length rest → did now (wrote_to before rest (Ok 0) after) next → SameKind before after → EndsWriting outlet bytes (Err Failed) next
  nothing_written outlet bytes n rest now next before after h below some answered same =
      let call : Call F = wrote_to before rest (Ok 0) after in
      (h.0 ++ call ∷ [], did_more first now next h.0 call h.2 answered, write_took_nothing after same some h.3 (subst (λ k. k < 2 ^ 40) (sym h.1) below))

  pub written_in_vain : (outlet : Outlet F) (bytes : List ℕ) (rest : List ℕ) (now : S) (before : Outlet F) → HasWritten outlet bytes (2 ^ 40) rest now before → 0 < length rest → EndsWriting outlet bytes (Err Failed) now
  written_in_vain outlet bytes rest now before h some = (h.0, h.2, wrote_too_often some h.3 h.1)

pub none_left : (xs : List ℕ) → length xs ≡ 0 → xs ≡ []
none_left [] e = refl
none_left (x ∷ xs) e = absurd (omega arith)
