-- How a word comes to the same, one turn after another.
use Rattle.std.proofs.Common.{◌≡◌, ◌<◌, ◌≤◌, ◌+◌, ◌-◌, ℕ, zero, suc, Bool, true, false, cond, List, [], ◌∷◌, ◌++◌, length, Result, Ok, Err, refl, sym, ap, subst, ◌∙◌, arith}
use Rattle.std.proofs.lemmas.Bool.Decides.{nat_tests}
use Rattle.tokens.specs.declared.stop.Stop.{Stop}
use Rattle.tokens.specs.declared.stop.Stop.TheVariants.{Spent}
use Rattle.tokens.specs.Ends.{EndsAs-map}
use Rattle.tokens.specs.Budget.{Allowance, is_spent, after_step}
use Rattle.tfm.specs.declared.action.Action.{Action}
use Rattle.tfm.specs.declared.action.Action.TheVariants.{Lig}
use Rattle.tfm.specs.FontMetrics.{FontMetrics}
use Rattle.nodes.specs.declared.node.Node.{Node}
use Rattle.lig_kern.specs.declared.element.Element.{Element}
use Rattle.lig_kern.specs.Elements.{nodes_of, between, is_ligature, kerns_of}
use Rattle.lig_kern.specs.Rewriting.{Word, word_at, passed, moved_on, moved, is_due_at, is_due, with_ligature, rewritten, after}
use Rattle.lig_kern.specs.Settling.{rewritings, after_steps, settled, Settles, Rewrites, Meets, before, to_do}

-- ---- words from which the cursor comes to the same place

pub rewritings-same : (m : FontMetrics) (n : ℕ) (w v : Word) → moved m w ≡ moved m v → rewritings m n w ≡ rewritings m n v
unfolding rewritings
rewritings-same m zero w v e = refl
rewritings-same m (suc n) w v e =
    ap (λ (x : Word). cond (is_due m x) (suc (rewritings m n (rewritten m x))) 0) e

pub after-same : (m : FontMetrics) (n : ℕ) (w v : Word) → moved m w ≡ moved m v → after m n w ≡ after m n v
unfolding after
after-same m zero w v e = e
after-same m (suc n) w v e = ap (λ (x : Word). after m n (rewritten m x)) e

pub settled-same : (m : FontMetrics) (w v : Word) (b : Allowance) → moved m w ≡ moved m v → settled m w b ≡ settled m v b
unfolding settled
settled-same m w v b e =
    let r = rewritings-same m b.left w v e in
    let a = ap (λ (n : ℕ). after m n w) r ∙ after-same m (rewritings m b.left v) w v e in
    λ i. record { word = a i; budget = after_steps (r i) b }

-- ---- the cursor moves on

-- over a place that it passes over
pub settled-over : (m : FontMetrics) (font : ℕ) (set : List Node) (here : Element) (over : ℕ) (next : Element) (ahead : List Element) (b : Allowance)
    → 0 < over
    → settled m (word_at font (set ++ nodes_of m font here ++ []) next (over - 1) ahead) b ≡ settled m (word_at font set here over (next ∷ ahead)) b
unfolding moved_on
settled-over m font set here zero next ahead b h = absurd (omega arith)
settled-over m font set here (suc over) next ahead b h =
    let nodes : List Node = set ++ nodes_of m font here ++ [] in
    let less : suc over - 1 ≡ over = omega arith in
    settled-same m (word_at font nodes next (suc over - 1) ahead) (word_at font set here (suc over) (next ∷ ahead)) b
    (ap (λ (n : ℕ). moved_on m font nodes next n ahead) less)

-- where no ligature is due
pub settled-on : (m : FontMetrics) (font : ℕ) (set : List Node) (here next : Element) (ahead : List Element) (b : Allowance) (action : Action)
    → between m here next ≡ action → is_ligature action ≡ false
    → settled m (word_at font (set ++ nodes_of m font here ++ kerns_of action) next 0 ahead) b ≡ settled m (word_at font set here 0 (next ∷ ahead)) b
unfolding moved_on
settled-on m font set here next ahead b action e none =
    let start : Word = word_at font set here 0 (next ∷ ahead) in
    let on : Action → Word = λ a. moved_on m font (set ++ nodes_of m font here ++ kerns_of a) next 0 ahead in
    settled-same m (word_at font (set ++ nodes_of m font here ++ kerns_of action) next 0 ahead) start b
    (sym (ap (λ (a : Action). cond (is_ligature a) start (on a)) e ∙ ap (λ (t : Bool). cond t start (on action)) none))

-- ---- a ligature is due

pub moved-due_at : (m : FontMetrics) (font : ℕ) (set : List Node) (here : Element) (over : ℕ) (ahead : List Element)
    → is_due_at m here over ahead ≡ true → moved_on m font set here over ahead ≡ word_at font set here over ahead
unfolding moved_on
moved-due_at m font set here over [] e = refl
moved-due_at m font set here zero (next ∷ ahead) e =
    let start : Word = word_at font set here 0 (next ∷ ahead) in
    let on : Word = moved_on m font (set ++ nodes_of m font here ++ kerns_of (between m here next)) next 0 ahead in
    ap (λ (t : Bool). cond t start on) e
moved-due_at m font set here (suc over) (next ∷ ahead) e = cc

pub moved-due : (m : FontMetrics) (w : Word) → is_due m w ≡ true → moved m w ≡ w
moved-due m w e = moved-due_at m w.font w.set w.here w.over w.ahead e

rewritten-due : (m : FontMetrics) (w v : Word) → is_due m w ≡ true → rewritten m w ≡ v → rewritten m (moved m w) ≡ v
rewritten-due m w v due e = ap (λ (x : Word). rewritten m x) (moved-due m w due) ∙ e

rewritings-due : (m : FontMetrics) (w v : Word) (n : ℕ) → is_due m w ≡ true → rewritten m w ≡ v → rewritings m (suc n) w ≡ suc (rewritings m n v)
unfolding rewritings
rewritings-due m w v n due e =
    let d : is_due m (moved m w) ≡ true = ap (λ (x : Word). is_due m x) (moved-due m w due) ∙ due in
    let k : ℕ = rewritings m n (rewritten m (moved m w)) in
    ap (λ (t : Bool). cond t (suc k) 0) d ∙ ap (λ (x : Word). suc (rewritings m n x)) (rewritten-due m w v due e)

after-due : (m : FontMetrics) (w v : Word) (n : ℕ) → is_due m w ≡ true → rewritten m w ≡ v → after m (suc n) w ≡ after m n v
unfolding after
after-due m w v n due e = ap (λ (x : Word). after m n x) (rewritten-due m w v due e)

-- a step is left, and the word goes on as the rewritten one does
settled-step : (m : FontMetrics) (w v : Word) (left used : ℕ) → is_due m w ≡ true → rewritten m w ≡ v
    → settled m v (record { left = left; used = used + 1 }) ≡ settled m w (record { left = suc left; used = used })
unfolding settled
settled-step m w v left used due e =
    let k : ℕ = rewritings m left v in
    let j : ℕ = rewritings m (suc left) w in
    let r : j ≡ suc k = rewritings-due m w v left due e in
    let a : after m j w ≡ after m k v = ap (λ (n : ℕ). after m n w) r ∙ after-due m w v k due e in
    let l : left - k ≡ suc left - j = omega arith in
    let u : used + 1 + k ≡ used + j = omega arith in
    λ i. record { word = sym a i; budget = record { left = l i; used = u i } }

settled-rewritten : (m : FontMetrics) (w v : Word) (left used : ℕ) → 0 < left → is_due m w ≡ true → rewritten m w ≡ v
    → settled m v (record { left = left - 1; used = used + 1 }) ≡ settled m w (record { left = left; used = used })
settled-rewritten m w v zero used h due e = absurd (omega arith)
settled-rewritten m w v (suc left) used h due e =
    let less : suc left - 1 ≡ left = omega arith in
    ap (λ (n : ℕ). settled m v (record { left = n; used = used + 1 })) less ∙ settled-step m w v left used due e

due-ligature : (m : FontMetrics) (here next : Element) (byte skip : ℕ) (keep_left keep_right : Bool)
    → between m here next ≡ Lig byte keep_left keep_right skip → is_ligature (between m here next) ≡ true
due-ligature m here next byte skip keep_left keep_right e = ap (λ (a : Action). is_ligature a) e

rewritten-ligature : (m : FontMetrics) (font : ℕ) (set : List Node) (here next : Element) (ahead : List Element) (byte skip : ℕ) (keep_left keep_right : Bool)
    → between m here next ≡ Lig byte keep_left keep_right skip
    → rewritten m (word_at font set here 0 (next ∷ ahead)) ≡ with_ligature byte keep_left keep_right skip next (word_at font set here 0 ahead)
unfolding rewritten
rewritten-ligature m font set here next ahead byte skip keep_left keep_right e = rw e refl

pub settled-ligature : (m : FontMetrics) (font : ℕ) (set : List Node) (here next : Element) (ahead : List Element) (b : Allowance) (byte skip : ℕ) (keep_left keep_right : Bool)
    → 0 < b.left → between m here next ≡ Lig byte keep_left keep_right skip
    → settled m (with_ligature byte keep_left keep_right skip next (word_at font set here 0 ahead)) (after_step b) ≡ settled m (word_at font set here 0 (next ∷ ahead)) b
settled-ligature m font set here next ahead b byte skip keep_left keep_right h e =
    settled-rewritten m (word_at font set here 0 (next ∷ ahead)) (with_ligature byte keep_left keep_right skip next (word_at font set here 0 ahead)) b.left b.used h
    (due-ligature m here next byte skip keep_left keep_right e) (rewritten-ligature m font set here next ahead byte skip keep_left keep_right e)

-- it adds at most one element to the word
pub length-ligature : (font : ℕ) (set : List Node) (here next : Element) (ahead : List Element) (byte skip : ℕ) (keep_left keep_right : Bool)
    → length (with_ligature byte keep_left keep_right skip next (word_at font set here 0 ahead)).ahead ≤ length ahead + 2
length-ligature font set here next ahead byte skip true true = omega arith
length-ligature font set here next ahead byte skip true false = omega arith
length-ligature font set here next ahead byte skip false true = omega arith
length-ligature font set here next ahead byte skip false false = omega arith

-- ---- where it ends

-- at a ligature for which no step is left
pub settled-spent : (m : FontMetrics) (w : Word) (b : Allowance) → is_due m w ≡ true → b.left ≡ 0 → settled m w b ≡ record { word = w; budget = b }
unfolding settled rewritings after
settled-spent m w b due none =
    let r : rewritings m b.left w ≡ 0 = ap (λ (n : ℕ). rewritings m n w) none in
    let a : after m (rewritings m b.left w) w ≡ w = ap (λ (n : ℕ). after m n w) r ∙ moved-due m w due in
    let l : b.left - rewritings m b.left w ≡ b.left = omega arith in
    let u : b.used + rewritings m b.left w ≡ b.used = omega arith in
    λ i. record { word = a i; budget = record { left = l i; used = u i } }

rewritings-end : (m : FontMetrics) (font : ℕ) (set : List Node) (here : Element) (over n : ℕ) → rewritings m n (word_at font set here over []) ≡ 0
unfolding rewritings moved_on
rewritings-end m font set here over zero = refl
rewritings-end m font set here over (suc n) = refl

settled-end_at : (m : FontMetrics) (font : ℕ) (set : List Node) (here : Element) (over : ℕ) (b : Allowance)
    → settled m (word_at font set here over []) b ≡ record { word = word_at font set here over []; budget = b }
unfolding settled after moved_on
settled-end_at m font set here over b =
    let w : Word = word_at font set here over [] in
    let r : rewritings m b.left w ≡ 0 = rewritings-end m font set here over b.left in
    let a : after m (rewritings m b.left w) w ≡ w = ap (λ (n : ℕ). after m n w) r in
    let l : b.left - rewritings m b.left w ≡ b.left = omega arith in
    let u : b.used + rewritings m b.left w ≡ b.used = omega arith in
    λ i. record { word = a i; budget = record { left = l i; used = u i } }

-- with nothing right of the cursor
pub settled-end : (m : FontMetrics) (w : Word) (b : Allowance) → w.ahead ≡ [] → settled m w b ≡ record { word = w; budget = b }
settled-end m w b e =
    let P : List Element → Type 0 = λ a. settled m (word_at w.font w.set w.here w.over a) b ≡ record { word = word_at w.font w.set w.here w.over a; budget = b } in
    subst P (sym e) (settled-end_at m w.font w.set w.here w.over b)

-- ---- one turn

-- a turn that leaves the word v, which comes to the same as the word before it, with less to do
turned : (m : FontMetrics) (w new v : Word) (next : Element) (b c : Allowance) → new ≡ v → settled m v c ≡ settled m (before next w) b
    → to_do v c ≤ to_do w b → (settled m new c ≡ settled m (before next w) b) × (to_do new c ≤ to_do w b)
turned m w new v next b c e same less =
    (ap (λ (x : Word). settled m x c) e ∙ same, subst (λ (x : Word). to_do x c ≤ to_do w b) (sym e) less)

-- over a place that the cursor passes over
pub turn-over : (m : FontMetrics) (w new : Word) (next : Element) (b : Allowance)
    → 0 < w.over → new ≡ passed m next [] (word_at w.font w.set w.here (w.over - 1) w.ahead)
    → (settled m new b ≡ settled m (before next w) b) × (to_do new b ≤ to_do w b)
turn-over m w new next b h e =
    turned m w new (passed m next [] (word_at w.font w.set w.here (w.over - 1) w.ahead)) next b b e
    (settled-over m w.font w.set w.here w.over next w.ahead b h) (omega arith)

settled-on_at : (m : FontMetrics) (font : ℕ) (set : List Node) (here : Element) (over : ℕ) (next : Element) (ahead : List Element) (b : Allowance) (action : Action)
    → over ≡ 0 → between m here next ≡ action → is_ligature action ≡ false
    → settled m (word_at font (set ++ nodes_of m font here ++ kerns_of action) next over ahead) b ≡ settled m (word_at font set here over (next ∷ ahead)) b
settled-on_at m font set here zero next ahead b action z e none = settled-on m font set here next ahead b action e none
settled-on_at m font set here (suc over) next ahead b action z e none = absurd (omega arith)

-- where no ligature is due
pub turn-on : (m : FontMetrics) (w new : Word) (next : Element) (b : Allowance) (action : Action)
    → w.over ≡ 0 → between m w.here next ≡ action → is_ligature action ≡ false → new ≡ passed m next (kerns_of action) w
    → (settled m new b ≡ settled m (before next w) b) × (to_do new b ≤ to_do w b)
turn-on m w new next b action z meets none e =
    turned m w new (passed m next (kerns_of action) w) next b b e
    (settled-on_at m w.font w.set w.here w.over next w.ahead b action z meets none) (omega arith)

settled-ligature_at : (m : FontMetrics) (font : ℕ) (set : List Node) (here : Element) (over : ℕ) (next : Element) (ahead : List Element) (b : Allowance) (byte skip : ℕ) (keep_left keep_right : Bool)
    → over ≡ 0 → 0 < b.left → between m here next ≡ Lig byte keep_left keep_right skip
    → settled m (with_ligature byte keep_left keep_right skip next (word_at font set here over ahead)) (after_step b) ≡ settled m (word_at font set here over (next ∷ ahead)) b
settled-ligature_at m font set here zero next ahead b byte skip keep_left keep_right z h e =
    settled-ligature m font set here next ahead b byte skip keep_left keep_right h e
settled-ligature_at m font set here (suc over) next ahead b byte skip keep_left keep_right z h e = absurd (omega arith)

-- at a ligature, for which a step is left
turn-ligature : (m : FontMetrics) (w new : Word) (next : Element) (b c : Allowance) (byte skip : ℕ) (keep_left keep_right : Bool)
    → w.over ≡ 0 → is_spent b ≡ false → c ≡ after_step b → between m w.here next ≡ Lig byte keep_left keep_right skip
    → new ≡ with_ligature byte keep_left keep_right skip next w
    → (settled m new c ≡ settled m (before next w) b) × (to_do new c ≤ to_do w b)
turn-ligature m w new next b c byte skip keep_left keep_right z some step meets e =
    let left : 0 < b.left = grind (arith, nat_tests) in
    let most : length (with_ligature byte keep_left keep_right skip next w).ahead ≤ length w.ahead + 2 = length-ligature w.font w.set w.here next w.ahead byte skip keep_left keep_right in
    let v : Word = with_ligature byte keep_left keep_right skip next w in
    let fewer : to_do v (after_step b) ≤ to_do w b = omega arith in
    let P : Allowance → Type 0 = λ x. (settled m new x ≡ settled m (before next w) b) × (to_do new x ≤ to_do w b) in
    subst P (sym step) (turned m w new v next b (after_step b) e (settled-ligature_at m w.font w.set w.here w.over next w.ahead b byte skip keep_left keep_right z left meets) fewer)

due-here : (m : FontMetrics) (here : Element) (over : ℕ) (next : Element) (ahead : List Element) (action : Action)
    → over ≡ 0 → between m here next ≡ action → is_ligature action ≡ true → is_due_at m here over (next ∷ ahead) ≡ true
due-here m here zero next ahead action z meets e = ap (λ (a : Action). is_ligature a) meets ∙ e
due-here m here (suc over) next ahead action z meets e = absurd (omega arith)

-- at a ligature, for which none is left
turn-spent : (m : FontMetrics) (w new : Word) (next : Element) (b c : Allowance) (action : Action)
    → w.over ≡ 0 → is_spent b ≡ true → c ≡ b → between m w.here next ≡ action → is_ligature action ≡ true → new ≡ before next w
    → (settled m (before next w) b ≡ record { word = new; budget = c }) × (is_due m new ≡ true)
turn-spent m w new next b c action z none same meets ligature e =
    let left : b.left ≡ 0 = grind (arith, nat_tests) in
    let due : is_due m (before next w) ≡ true = due-here m w.here w.over next w.ahead action z meets ligature in
    let end : settled m (before next w) b ≡ record { word = before next w; budget = b } = settled-spent m (before next w) b due left in
    (end ∙ (λ i. record { word = sym e i; budget = sym same i }), ap (λ (x : Word). is_due m x) e ∙ due)

-- at a ligature, whether a step is left or not
pub turn-rewrites : {A : Type 0} (m : FontMetrics) (w : Word) (next : Element) (b : Allowance) (byte skip : ℕ) (keep_left keep_right : Bool) (result : Result A Stop) (new : Word) (c : Allowance)
    → w.over ≡ 0 → between m w.here next ≡ Lig byte keep_left keep_right skip
    → Rewrites byte keep_left keep_right skip next w b result new c → Meets m next w b result new c
turn-rewrites m w next b byte skip keep_left keep_right (Ok value) new c z meets h =
    turn-ligature m w new next b c byte skip keep_left keep_right z h.2 h.1 meets h.0
turn-rewrites m w next b byte skip keep_left keep_right (Err stop) new c z meets h =
    EndsAs-map (λ s. (s ≡ Spent) × (new ≡ before next w) × (c ≡ b) × (is_spent b ≡ true))
    (λ s. (s ≡ Spent) × (settled m (before next w) b ≡ record { word = new; budget = c }) × (is_due m new ≡ true))
    (λ s p. let t : (settled m (before next w) b ≡ record { word = new; budget = c }) × (is_due m new ≡ true) = turn-spent m w new next b c (Lig byte keep_left keep_right skip) z p.3 p.2 meets refl p.1 in (p.0, t.0, t.1)) stop h

-- ---- what a word comes to

-- a word that comes to the same, and has nothing right of the cursor
pub ended : (m : FontMetrics) (w start : Word) (b first : Allowance) (items : List Element)
    → settled m w b ≡ settled m start first → w.ahead ≡ items → items ≡ []
    → settled m start first ≡ record { word = word_at w.font w.set w.here w.over items; budget = b }
ended m w start b first items e same none =
    let P : List Element → Type 0 = λ a. settled m start first ≡ record { word = word_at w.font w.set w.here w.over a; budget = b } in
    subst P same (sym e ∙ settled-end m w b (same ∙ none))

-- a word that comes to the same settles so
pub Settles-same : {A : Type 0} (m : FontMetrics) (w v : Word) (b c : Allowance) (result : Result A Stop) (new : Word) (budget : Allowance)
    → settled m v c ≡ settled m w b → Settles m v c result new budget → Settles m w b result new budget
Settles-same m w v b c (Ok value) new budget e h = (sym e ∙ h.0, h.1)
Settles-same m w v b c (Err stop) new budget e h =
    EndsAs-map (λ s. (s ≡ Spent) × (settled m v c ≡ record { word = new; budget = budget }) × (is_due m new ≡ true))
    (λ s. (s ≡ Spent) × (settled m w b ≡ record { word = new; budget = budget }) × (is_due m new ≡ true))
    (λ s p. (p.0, sym e ∙ p.1, p.2)) stop h
