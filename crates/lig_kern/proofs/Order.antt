-- Rewriting keeps the characters that were fed, in order.
use Rattle.std.proofs.Common.{◌≡◌, ℤ, ℕ, zero, suc, Bool, true, false, cond, List, [], ◌∷◌, ◌++◌, map, refl, sym, ap, ◌∙◌, append-nil, append_assoc}
use Rattle.std.specs.List.{flat_map}
use Rattle.std.proofs.lemmas.Grind.{flat_map-append}
use Rattle.tfm.specs.declared.action.Action.{Action}
use Rattle.tfm.specs.declared.action.Action.TheVariants.{Nothing, Kern, Lig}
use Rattle.tfm.specs.FontMetrics.{FontMetrics, character_in}
use Rattle.nodes.specs.declared.node.Node.{Node}
use Rattle.nodes.specs.declared.node.Node.TheVariants.{Char, rolls-Char, rolls-Lig, rolls-Kern}
use Rattle.nodes.specs.declared.node.Node.TheVariants as node
use Rattle.nodes.specs.declared.node.Node.TheOpen.{Node-F}
use Rattle.nodes.specs.declared.node.Node.TheViews.{out-roll-Node}
use Rattle.nodes.specs.declared.node.KernKind.{KernKind}
use Rattle.nodes.specs.declared.node.KernKind.TheVariants.{Font}
use Rattle.nodes.specs.declared.ligature.LigNode.{LigNode}
use Rattle.lig_kern.specs.declared.element.Element.{Element}
use Rattle.lig_kern.specs.declared.element.Element.TheVariants.{Start, Boundary, Character, Ligature}
use Rattle.lig_kern.specs.Elements.{source_of, nodes_of, between, is_ligature, kerns_of, yields_left, yields_right}
use Rattle.lig_kern.specs.Rewriting.{Word, word_at, first_of, word_of_fed, last_of, closed, moved_on, moved, rewritten_by, rewritten_before, rewritten, after, list_of}
use Rattle.lig_kern.specs.Sources.{source_in, source_of_node, sources_of, IsSetInOrder}

-- ---- nodes

source-char : (font byte : ℕ) (width height depth italic : ℤ) → source_of_node (Char font byte width height depth italic) ≡ byte ∷ []
source-char font byte width height depth italic =
    ap source_of_node (sym (rolls-Char font byte width height depth italic))
    ∙ ap (λ (x : Node-F Node). source_in x) (out-roll-Node (Node-F.Char font byte width height depth italic))

source-lig : (lig : LigNode) → source_of_node (node.Lig lig) ≡ lig.source
source-lig lig =
    ap source_of_node (sym (rolls-Lig lig)) ∙ ap (λ (x : Node-F Node). source_in x) (out-roll-Node (Node-F.Lig lig))

source-kern : (width : ℤ) (how : KernKind) → source_of_node (node.Kern width how) ≡ []
source-kern width how =
    ap source_of_node (sym (rolls-Kern width how)) ∙ ap (λ (x : Node-F Node). source_in x) (out-roll-Node (Node-F.Kern width how))

sources-append : (xs ys : List Node) → sources_of (xs ++ ys) ≡ sources_of xs ++ sources_of ys
sources-append xs ys = flat_map-append source_of_node xs ys

sources-nodes : (m : FontMetrics) (font : ℕ) (e : Element) → sources_of (nodes_of m font e) ≡ source_of e
sources-nodes m font Start = refl
sources-nodes m font Boundary = refl
sources-nodes m font (Character byte) =
    let c = character_in m byte in
    ap (λ (x : List ℕ). x ++ []) (source-char font byte c.width c.height c.depth c.italic)
sources-nodes m font (Ligature byte source left right) =
    let c = character_in m byte in
    let lig : LigNode = record { font = font; byte = byte; width = c.width; height = c.height; depth = c.depth; italic = c.italic; source = source; left = left; right = right } in
    ap (λ (x : List ℕ). x ++ []) (source-lig lig) ∙ append-nil source

sources-kerns : (action : Action) → sources_of (kerns_of action) ≡ []
sources-kerns Nothing = refl
sources-kerns (Kern width) = ap (λ (x : List ℕ). x ++ []) (source-kern width Font)
sources-kerns (Lig byte keep_left keep_right skip) = refl

-- what the cursor leaves behind
sources-left : (m : FontMetrics) (font : ℕ) (set : List Node) (here : Element) (more : List Node) → sources_of more ≡ []
    → sources_of (set ++ nodes_of m font here ++ more) ≡ sources_of set ++ source_of here
sources-left m font set here more none =
    sources-append (set ++ nodes_of m font here) more
    ∙ (ap (λ (x : List ℕ). sources_of (set ++ nodes_of m font here) ++ x) none
    ∙ (append-nil (sources_of (set ++ nodes_of m font here))
    ∙ (sources-append set (nodes_of m font here) ∙ ap (λ (x : List ℕ). sources_of set ++ x) (sources-nodes m font here))))

-- ---- words

abbrev of_list : List Element → List ℕ
of_list list = flat_map source_of list

abbrev of_word : Word → List ℕ
of_word word = sources_of word.set ++ (source_of word.here ++ of_list word.ahead)

-- one step on: what is left behind, and what is then here
order-on : (m : FontMetrics) (font : ℕ) (set : List Node) (here next : Element) (more : List Node) (ahead : List Element) → sources_of more ≡ []
    → sources_of (set ++ nodes_of m font here ++ more) ++ (source_of next ++ of_list ahead) ≡ sources_of set ++ (source_of here ++ (source_of next ++ of_list ahead))
order-on m font set here next more ahead none =
    ap (λ (x : List ℕ). x ++ (source_of next ++ of_list ahead)) (sources-left m font set here more none)
    ∙ append_assoc (sources_of set) (source_of here) (source_of next ++ of_list ahead)

order-moved_by : (m : FontMetrics) (font : ℕ) (set : List Node) (here next : Element) (ahead : List Element) (t : Bool) (on : Word)
    → of_word on ≡ sources_of set ++ (source_of here ++ (source_of next ++ of_list ahead))
    → of_word (cond t (word_at font set here 0 (next ∷ ahead)) on) ≡ sources_of set ++ (source_of here ++ (source_of next ++ of_list ahead))
order-moved_by m font set here next ahead true on h = refl
order-moved_by m font set here next ahead false on h = h

order-moved_on : (m : FontMetrics) (font : ℕ) (set : List Node) (here : Element) (over : ℕ) (ahead : List Element)
    → of_word (moved_on m font set here over ahead) ≡ sources_of set ++ (source_of here ++ of_list ahead)
unfolding moved_on
order-moved_on m font set here over [] = refl
order-moved_on m font set here zero (next ∷ ahead) =
    let kerns : List Node = kerns_of (between m here next) in
    let nodes : List Node = set ++ nodes_of m font here ++ kerns in
    order-moved_by m font set here next ahead (is_ligature (between m here next)) (moved_on m font nodes next 0 ahead)
    (order-moved_on m font nodes next 0 ahead ∙ order-on m font set here next kerns ahead (sources-kerns (between m here next)))
order-moved_on m font set here (suc over) (next ∷ ahead) =
    order-moved_on m font (set ++ nodes_of m font here ++ []) next over ahead ∙ order-on m font set here next [] ahead refl

order-moved : (m : FontMetrics) (w : Word) → of_word (moved m w) ≡ of_word w
order-moved m w = order-moved_on m w.font w.set w.here w.over w.ahead

-- ---- rewriting

source-yields_left : (yields : Bool) (e : Element) → source_of (yields_left yields e) ≡ source_of e
source-yields_left yields Start = refl
source-yields_left yields Boundary = refl
source-yields_left yields (Character byte) = refl
source-yields_left yields (Ligature byte source left right) = refl

source-yields_right : (yields : Bool) (e : Element) → source_of (yields_right yields e) ≡ source_of e
source-yields_right yields Start = refl
source-yields_right yields Boundary = refl
source-yields_right yields (Character byte) = refl
source-yields_right yields (Ligature byte source left right) = refl

order-rewritten_by : (action : Action) (font : ℕ) (set : List Node) (here : Element) (over : ℕ) (next : Element) (ahead : List Element)
    → of_word (rewritten_by action next (word_at font set here over ahead) (word_at font set here over (next ∷ ahead)))
    ≡ sources_of set ++ (source_of here ++ (source_of next ++ of_list ahead))
order-rewritten_by Nothing font set here over next ahead = refl
order-rewritten_by (Kern width) font set here over next ahead = refl
order-rewritten_by (Lig byte true true skip) font set here over next ahead =
    simp (source-yields_left, source-yields_right) refl
order-rewritten_by (Lig byte true false skip) font set here over next ahead =
    simp (source-yields_left, source-yields_right) refl
order-rewritten_by (Lig byte false true skip) font set here over next ahead =
    simp (source-yields_left, source-yields_right, append-nil) refl
order-rewritten_by (Lig byte false false skip) font set here over next ahead =
    ap (λ (x : List ℕ). sources_of set ++ x) (append_assoc (source_of here) (source_of next) (of_list ahead))

order-rewritten_at : (m : FontMetrics) (font : ℕ) (set : List Node) (here : Element) (over : ℕ) (ahead : List Element)
    → of_word (rewritten_before m ahead (word_at font set here over ahead)) ≡ sources_of set ++ (source_of here ++ of_list ahead)
order-rewritten_at m font set here over [] = refl
order-rewritten_at m font set here over (next ∷ ahead) = order-rewritten_by (between m here next) font set here over next ahead

order-rewritten : (m : FontMetrics) (w : Word) → of_word (rewritten m w) ≡ of_word w
unfolding rewritten
order-rewritten m w = order-rewritten_at m w.font w.set w.here w.over w.ahead

order-after : (m : FontMetrics) (n : ℕ) (w : Word) → of_word (after m n w) ≡ of_word w
unfolding after
order-after m zero w = order-moved m w
order-after m (suc n) w = order-after m n (rewritten m (moved m w)) ∙ (order-rewritten m (moved m w) ∙ order-moved m w)

-- ---- what was fed

order-fed : (fed : List ℕ) → of_list (map Character fed) ≡ fed
order-fed [] = refl
order-fed (byte ∷ fed) = ap (λ (x : List ℕ). byte ∷ x) (order-fed fed)

order-first : (left : Bool) → source_of (first_of left) ≡ []
order-first true = refl
order-first false = refl

order-last : (right : Bool) → of_list (last_of right) ≡ []
order-last true = refl
order-last false = refl

order-closed : (font : ℕ) (left : Bool) (fed : List ℕ) (right : Bool) → of_word (closed right (word_of_fed font left fed)) ≡ fed
order-closed font left fed right =
    ap (λ (x : List ℕ). x ++ of_list (map Character fed ++ last_of right)) (order-first left)
    ∙ (flat_map-append source_of (map Character fed) (last_of right)
    ∙ (ap (λ (x : List ℕ). of_list (map Character fed) ++ x) (order-last right)
    ∙ (append-nil (of_list (map Character fed)) ∙ order-fed fed)))

order-list : (m : FontMetrics) (w : Word) → w.ahead ≡ [] → sources_of (list_of m w) ≡ of_word w
order-list m w e =
    sources-append w.set (nodes_of m w.font w.here)
    ∙ (ap (λ (x : List ℕ). sources_of w.set ++ x) (sources-nodes m w.font w.here ∙ sym (append-nil (source_of w.here)))
    ∙ ap (λ (x : List Element). sources_of w.set ++ (source_of w.here ++ of_list x)) (sym e))

pub set_in_order : IsSetInOrder
set_in_order m font left fed right count list h =
    let start : Word = closed right (word_of_fed font left fed) in
    ap (λ (x : List Node). sources_of x) h.made
    ∙ (order-list m (after m count start) h.ended ∙ (order-after m count start ∙ order-closed font left fed right))
