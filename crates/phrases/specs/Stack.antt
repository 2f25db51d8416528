-- Phrases on a stack come to what the recursion gives: at the start, behind each turn of the innermost phrase, and at the
-- end.
use Rattle.std.specs.Prelude.{◌≡◌, ℕ, ◌++◌, Bool, true, false, List, [], ◌∷◌, Ok, Err}
use Rattle.std.proofs.Common.{suc}
use Rattle.tokens.specs.declared.stop.Stop.{Stop}
use Rattle.asking.specs.Meaning.{Meant, still, ◌>>=◌}
use Rattle.asking.specs.Seen.{Outside, Seen, DoesBeside}
use Rattle.phrases.specs.Phrases.{Found, More, Again, Inner, Aside, Ends, Rules, gives, Waiting, with_told, finish}
use Rattle.phrases.specs.Unwinding.{Unwinds, unwinds_start, unwinds_end, unwinds_more, unwinds_again, unwinds_inner, unwinds_stop, unwinds_last, unwinds_out, opened_inner, opened_aside}

-- a phrase that waits for the one inside it
abbrev pub waiting : {C K X : Type 0} → ℕ → C → K → List X → Bool → Waiting C K X
waiting turns c k xs takes = record { turns = turns; context = c; kind = k; taken = xs; takes = takes }

-- a turn, told by what it found, and the beginning of an inner phrase
abbrev pub Turned : {S C K X Y : Type 0} → Rules S C K X Y → Outside → Seen → Seen → Found K X Y → S → C → K → List X → S → Type 0
Turned r o now mid found u c k xs s = DoesBeside o now mid (Ok found) u (r.turn c k xs s)

pub record StackLaw (S C K X Y : Type 0) : Type 0 where
  -- a phrase begins
  pub start : (r : Rules S C K X Y) (o : Outside) (old : Seen) (whole : Meant S Y) (turns : ℕ) (c : C) (k : K) (xs : List X) (s : S)
      → whole ≡ gives r turns c k xs s → Unwinds r o old old whole turns [] turns c k xs s
  -- it takes one thing more
  pub more : (r : Rules S C K X Y) (o : Outside) (old now mid : Seen) (whole : Meant S Y) (left turns : ℕ) (around : List (Waiting C K X)) (c : C) (k : K) (xs : List X) (s u : S) (x : X)
      → Unwinds r o old now whole (suc left) around turns c k xs s → Turned r o now mid (More x) u c k xs s
      → (n : ℕ) × Unwinds r o old mid whole left around n c k (xs ++ x ∷ []) u
  -- it goes on as it was
  pub again : (r : Rules S C K X Y) (o : Outside) (old now mid : Seen) (whole : Meant S Y) (left turns : ℕ) (around : List (Waiting C K X)) (c : C) (k : K) (xs : List X) (s u : S)
      → Unwinds r o old now whole (suc left) around turns c k xs s → Turned r o now mid Again u c k xs s
      → (n : ℕ) × Unwinds r o old mid whole left around n c k xs u
  -- it waits for an inner one, whose value it takes, or not
  pub inner : (r : Rules S C K X Y) (o : Outside) (old now mid new : Seen) (whole : Meant S Y) (left turns : ℕ) (around : List (Waiting C K X)) (c d : C) (k j : K) (xs : List X) (s u v : S)
      → Unwinds r o old now whole (suc left) around turns c k xs s → Turned r o now mid (Inner j) u c k xs s
      → DoesBeside o mid new (Ok d) v (still (r.inside c j u)) → (n : ℕ) × Unwinds r o old new whole left (waiting n c k xs true ∷ around) n d j [] v
  pub aside : (r : Rules S C K X Y) (o : Outside) (old now mid new : Seen) (whole : Meant S Y) (left turns : ℕ) (around : List (Waiting C K X)) (c d : C) (k j : K) (xs : List X) (s u v : S)
      → Unwinds r o old now whole (suc left) around turns c k xs s → Turned r o now mid (Aside j) u c k xs s
      → DoesBeside o mid new (Ok d) v (still (r.inside c j u)) → (n : ℕ) × Unwinds r o old new whole left (waiting n c k xs false ∷ around) n d j [] v
  -- it ends, and the one around it goes on
  pub out : (r : Rules S C K X Y) (o : Outside) (old now mid : Seen) (whole : Meant S Y) (left turns : ℕ) (w : Waiting C K X) (around : List (Waiting C K X)) (c : C) (k : K) (xs : List X) (s u : S) (y : Y)
      → Unwinds r o old now whole (suc left) (w ∷ around) turns c k xs s → Turned r o now mid (Ends y) u c k xs s
      → Unwinds r o old mid whole left around w.turns w.context w.kind (with_told r w y) u
  -- it ends, and nothing is around it
  pub last : (r : Rules S C K X Y) (o : Outside) (old now new : Seen) (whole : Meant S Y) (left turns : ℕ) (c : C) (k : K) (xs : List X) (s t : S) (y : Y)
      → Unwinds r o old now whole (suc left) [] turns c k xs s → Turned r o now new (Ends y) t c k xs s → DoesBeside o old new (Ok y) t whole
  -- the run ends in a turn, or where an inner phrase would begin
  pub ended : (r : Rules S C K X Y) (o : Outside) (old now new : Seen) (whole : Meant S Y) (left turns : ℕ) (around : List (Waiting C K X)) (c : C) (k : K) (xs : List X) (s t : S) (stop : Stop)
      → Unwinds r o old now whole (suc left) around turns c k xs s → DoesBeside {A = Found K X Y} o now new (Err stop) t (r.turn c k xs s)
      → DoesBeside {A = Y} o old new (Err stop) t whole
  pub inner_ended : (r : Rules S C K X Y) (o : Outside) (old now mid new : Seen) (whole : Meant S Y) (left turns : ℕ) (around : List (Waiting C K X)) (c : C) (k j : K) (xs : List X) (s u t : S) (stop : Stop)
      → Unwinds r o old now whole (suc left) around turns c k xs s → Turned r o now mid (Inner j) u c k xs s
      → DoesBeside {A = C} o mid new (Err stop) t (still (r.inside c j u)) → DoesBeside {A = Y} o old new (Err stop) t whole
  pub aside_ended : (r : Rules S C K X Y) (o : Outside) (old now mid new : Seen) (whole : Meant S Y) (left turns : ℕ) (around : List (Waiting C K X)) (c : C) (k j : K) (xs : List X) (s u t : S) (stop : Stop)
      → Unwinds r o old now whole (suc left) around turns c k xs s → Turned r o now mid (Aside j) u c k xs s
      → DoesBeside {A = C} o mid new (Err stop) t (still (r.inside c j u)) → DoesBeside {A = Y} o old new (Err stop) t whole

pub stack_law : {S C K X Y : Type 0} → StackLaw S C K X Y
stack_law = record {
  start = λ r o old whole turns c k xs s is. unwinds_start turns c k xs s is;
  more = λ r o old now mid whole left turns around c k xs s u x w h. unwinds_more mid x u w h;
  again = λ r o old now mid whole left turns around c k xs s u w h. unwinds_again mid u w h;
  inner = λ r o old now mid new whole left turns around c d k j xs s u v w h b.
      unwinds_inner mid new (Inner j) true j u v d w h (λ more end result t g. opened_inner r o mid around c k xs j u more end result t g) b;
  aside = λ r o old now mid new whole left turns around c d k j xs s u v w h b.
      unwinds_inner mid new (Aside j) false j u v d w h (λ more end result t g. opened_aside r o mid around c k xs j u more end result t g) b;
  out = λ r o old now mid whole left turns w around c k xs s u y h g. unwinds_out r o old now mid whole left turns w around c k xs s u y h g;
  last = λ r o old now new whole left turns c k xs s t y w h. unwinds_last r o old now new whole left turns c k xs s t y w h;
  ended = λ r o old now new whole left turns around c k xs s t stop w h. unwinds_end new stop t w h;
  inner_ended = λ r o old now mid new whole left turns around c k j xs s u t stop w h b.
      unwinds_stop mid new (Inner j) (λ further y. further c k (xs ++ r.got y.0 ∷ []) y.1 >>= finish r around) j u t stop w h
      (λ more end result t g. opened_inner r o mid around c k xs j u more end result t g) b;
  aside_ended = λ r o old now mid new whole left turns around c k j xs s u t stop w h b.
      unwinds_stop mid new (Aside j) (λ further y. further c k xs y.1 >>= finish r around) j u t stop w h
      (λ more end result t g. opened_aside r o mid around c k xs j u more end result t g) b;
}
