-- How a font's program rewrites a word (The TeXbook, chapter 4 and appendix F; tex.web, sections 545, 546 and 1034 to
-- 1040). A word is a list of characters, with a boundary at each end or none, and with a cursor between two of them.
-- Where the program has a kern for the two, it is put there and the cursor moves on; where it has nothing, the cursor
-- moves on. Where it has a ligature, the list is rewritten around the cursor.
use Rattle.std.specs.Prelude.{◌≡◌, ℕ, zero, suc, Bool, true, false, if◌then◌else◌, List, [], ◌∷◌, ◌++◌, map}
use Rattle.tfm.specs.declared.action.Action.{Action}
use Rattle.tfm.specs.declared.action.Action.TheVariants.{Nothing, Kern, Lig}
use Rattle.tfm.specs.FontMetrics.{FontMetrics}
use Rattle.nodes.specs.declared.node.Node.{Node}
use Rattle.lig_kern.specs.declared.element.Element.{Element}
use Rattle.lig_kern.specs.declared.element.Element.TheVariants.{Start, Boundary, Character}
use Rattle.lig_kern.specs.Elements.{is_boundary, nodes_of, between, is_ligature, kerns_of, ligature_of, yields_left, yields_right}

-- a word with its cursor
pub record Word : Type 0 where
  -- the number of the font
  pub font : ℕ
  -- what the cursor has left behind, and no ligature can change any more
  pub set : List Node
  -- what stands left of the cursor
  pub here : Element
  -- how many places the cursor is still to pass over
  pub over : ℕ
  -- what stands right of the cursor
  pub ahead : List Element

abbrev pub word_at : ℕ → List Node → Element → ℕ → List Element → Word
word_at font set here over ahead = record { font = font; set = set; here = here; over = over; ahead = ahead }

-- ---- the word of what was fed

abbrev pub first_of : Bool → Element
first_of true = Boundary
first_of false = Start

-- a word of the characters that were fed, with or without a boundary at its left; the cursor stands behind that
abbrev pub word_of_fed : ℕ → Bool → List ℕ → Word
word_of_fed font left fed = word_at font [] (first_of left) 0 (map Character fed)

-- a word of which nothing was fed
abbrev pub first_word : ℕ → Bool → Word
first_word font left = word_of_fed font left []

-- the word with more at its end
abbrev pub with_more : List Element → Word → Word
with_more more word = word_at word.font word.set word.here word.over (word.ahead ++ more)

abbrev pub with_fed : ℕ → Word → Word
with_fed byte word = with_more (Character byte ∷ []) word

abbrev pub last_of : Bool → List Element
last_of true = Boundary ∷ []
last_of false = []

-- the whole word, with or without a boundary at its right
abbrev pub closed : Bool → Word → Word
closed right word = with_more (last_of right) word

-- ---- the cursor

-- the cursor passes an element, behind which nodes are left
abbrev pub passed : FontMetrics → Element → List Node → Word → Word
passed metrics next nodes word =
    word_at word.font (word.set ++ nodes_of metrics word.font word.here ++ nodes) next word.over word.ahead

-- it moves on to the next ligature that is due, or to the end of what was fed
unfoldable pub moved_on : FontMetrics → ℕ → List Node → Element → ℕ → List Element → Word
moved_on metrics font set here over [] = word_at font set here over []
moved_on metrics font set here zero (next ∷ ahead) =
    if is_ligature (between metrics here next) then word_at font set here zero (next ∷ ahead)
    else moved_on metrics font (set ++ nodes_of metrics font here ++ kerns_of (between metrics here next)) next zero ahead
moved_on metrics font set here (suc over) (next ∷ ahead) =
    moved_on metrics font (set ++ nodes_of metrics font here ++ []) next over ahead

abbrev pub moved : FontMetrics → Word → Word
moved metrics word = moved_on metrics word.font word.set word.here word.over word.ahead

-- whether a ligature is due where the cursor stands
abbrev pub is_due_at : FontMetrics → Element → ℕ → List Element → Bool
is_due_at metrics here over [] = false
is_due_at metrics here zero (next ∷ ahead) = is_ligature (between metrics here next)
is_due_at metrics here (suc over) (next ∷ ahead) = false

abbrev pub is_due : FontMetrics → Word → Bool
is_due metrics word = is_due_at metrics word.here word.over word.ahead

-- ---- a rewriting

abbrev pub kept_before : Bool → Element → List Element → List Element
kept_before kept element list = if kept then element ∷ list else list

-- A ligature comes between the cursor's neighbours, of which each is kept or not. The cursor then stands behind the
-- first of what there is now, and passes over some places. The word's other elements are those behind the right one.
abbrev pub with_ligature : ℕ → Bool → Bool → ℕ → Element → Word → Word
with_ligature byte keep_left keep_right skip next word =
    let ligature = ligature_of byte keep_left keep_right word.here next in
    let rest = kept_before keep_right (yields_left (is_boundary word.here) next) word.ahead in
    if keep_left then word_at word.font word.set (yields_right (is_boundary next) word.here) skip (ligature ∷ rest)
    else word_at word.font word.set ligature skip rest

abbrev pub rewritten_by : Action → Element → Word → Word → Word
rewritten_by Nothing next rest word = word
rewritten_by (Kern width) next rest word = word
rewritten_by (Lig byte keep_left keep_right skip) next rest word = with_ligature byte keep_left keep_right skip next rest

abbrev pub rewritten_before : FontMetrics → List Element → Word → Word
rewritten_before metrics [] word = word
rewritten_before metrics (next ∷ ahead) word =
    rewritten_by (between metrics word.here next) next (word_at word.font word.set word.here word.over ahead) word

-- the word with the ligature that is due at the cursor
unfoldable pub rewritten : FontMetrics → Word → Word
rewritten metrics word = rewritten_before metrics word.ahead word

-- ---- many rewritings

-- the word behind so many rewritings, with the cursor as far on as it comes
unfoldable pub after : FontMetrics → ℕ → Word → Word
after metrics zero word = moved metrics word
after metrics (suc count) word = after metrics count (rewritten metrics (moved metrics word))

-- so many rewritings are due, one after another
unfoldable pub AreDue : FontMetrics → ℕ → Word → Type 0
AreDue metrics zero word = Unit {0}
AreDue metrics (suc count) word =
    (is_due metrics (moved metrics word) ≡ true) × AreDue metrics count (rewritten metrics (moved metrics word))

-- the list of a word at whose end the cursor is
abbrev pub list_of : FontMetrics → Word → List Node
list_of metrics word = word.set ++ nodes_of metrics word.font word.here
