-- The limits of this TeX: the words in brackets behind `TeX capacity exceeded` (tex.web section 94) and
-- the greatest count that each allows. The numbers are this program's own.
use Rattle.std.specs.Prelude.{ℕ, List, codes}
use Rattle.tokens.specs.declared.cap.Cap.{Cap}
use Rattle.tokens.specs.declared.cap.Cap.TheVariants.{Groups, Fonts, Inputs, Modes, Frames, BoxNesting, Items, BoxSize, Line, Pages, PageBytes}

-- the words in brackets
abbrev pub cap_text : Cap → List ℕ
cap_text Groups = codes "grouping levels=255"
cap_text Fonts = codes "fonts=255"
cap_text Inputs = codes "text input levels=15"
cap_text Modes = codes "semantic nest=200"
cap_text Frames = codes "expansion frames=10000"
cap_text BoxNesting = codes "box nesting=500"
cap_text Items = codes "list items=16777215"
cap_text BoxSize = codes "dimension=1073741823"
cap_text Line = codes "buffer size=65535"
cap_text Pages = codes "pages=65535"
cap_text PageBytes = codes "page bytes=16777215"

-- the greatest count that is allowed
abbrev pub cap_limit : Cap → ℕ
cap_limit Groups = 255
cap_limit Fonts = 255
cap_limit Inputs = 15
cap_limit Modes = 200
cap_limit Frames = 10000
cap_limit BoxNesting = 500
cap_limit Items = 16777215
cap_limit BoxSize = 1073741823
cap_limit Line = 65535
cap_limit Pages = 65535
cap_limit PageBytes = 16777215
