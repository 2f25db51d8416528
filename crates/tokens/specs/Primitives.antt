-- The two tables of primitives: the names of TeX (The TeXbook, appendix I) and those that e-TeX adds (the
-- e-TeX manual), one behind the other. A primitive's code is its place here, counted from 0. Names that
-- this TeX leaves out are in the tables too, and so is control space.
use Rattle.std.specs.Prelude.{◌≡◌, ◌≢◌, ℕ, ◌<◌, Bool, true, not, ◌&&◌, ◌==◌, List, [], ◌∷◌, ◌++◌, length, nat_lt, Option, Some, None, is_some, codes, if◌then◌else◌, refl}
use Rattle.std.proofs.Common.{zero, suc, arith, sym}
use Rattle.std.proofs.lemmas.Bool.{and_parts, false≢true}
use Rattle.tokens.specs.declared.meaning.Meaning.{Meaning}
use Rattle.tokens.specs.declared.meaning.Meaning.TheVariants.{Undefined, Primitive, Font}
use Rattle.tokens.specs.Codes.{nullfont_code}
use Rattle.tokens.specs.Names.{name_at, AreDistinct, place_of, place_of-is, IsPlace}

-- expandable commands and conditions
unfoldable pub expandable_names : List (List ℕ)
expandable_names =
    codes "input" ∷ codes "endinput" ∷ codes "expandafter" ∷ codes "noexpand" ∷
    codes "csname" ∷ codes "the" ∷ codes "number" ∷ codes "romannumeral" ∷ codes "string" ∷
    codes "meaning" ∷ codes "fontname" ∷ codes "jobname" ∷ codes "topmark" ∷
    codes "firstmark" ∷ codes "botmark" ∷ codes "splitfirstmark" ∷ codes "splitbotmark" ∷
    codes "if" ∷ codes "ifcat" ∷ codes "ifnum" ∷ codes "ifdim" ∷ codes "ifodd" ∷
    codes "ifvmode" ∷ codes "ifhmode" ∷ codes "ifmmode" ∷ codes "ifinner" ∷ codes "ifvoid" ∷
    codes "ifhbox" ∷ codes "ifvbox" ∷ codes "ifx" ∷ codes "ifeof" ∷ codes "iftrue" ∷
    codes "iffalse" ∷ codes "ifcase" ∷ codes "else" ∷ codes "or" ∷ codes "fi" ∷ []

-- integer parameters
unfoldable pub integer_parameters : List (List ℕ)
integer_parameters =
    codes "pretolerance" ∷ codes "tolerance" ∷ codes "linepenalty" ∷ codes "hyphenpenalty" ∷
    codes "exhyphenpenalty" ∷ codes "clubpenalty" ∷ codes "widowpenalty" ∷
    codes "displaywidowpenalty" ∷ codes "brokenpenalty" ∷ codes "binoppenalty" ∷
    codes "relpenalty" ∷ codes "predisplaypenalty" ∷ codes "postdisplaypenalty" ∷
    codes "interlinepenalty" ∷ codes "doublehyphendemerits" ∷ codes "finalhyphendemerits" ∷
    codes "adjdemerits" ∷ codes "mag" ∷ codes "delimiterfactor" ∷ codes "looseness" ∷
    codes "time" ∷ codes "day" ∷ codes "month" ∷ codes "year" ∷ codes "showboxbreadth" ∷
    codes "showboxdepth" ∷ codes "hbadness" ∷ codes "vbadness" ∷ codes "pausing" ∷
    codes "tracingonline" ∷ codes "tracingmacros" ∷ codes "tracingstats" ∷
    codes "tracingparagraphs" ∷ codes "tracingpages" ∷ codes "tracingoutput" ∷
    codes "tracinglostchars" ∷ codes "tracingcommands" ∷ codes "tracingrestores" ∷
    codes "uchyph" ∷ codes "outputpenalty" ∷ codes "maxdeadcycles" ∷ codes "hangafter" ∷
    codes "floatingpenalty" ∷ codes "globaldefs" ∷ codes "fam" ∷ codes "escapechar" ∷
    codes "defaulthyphenchar" ∷ codes "defaultskewchar" ∷ codes "endlinechar" ∷
    codes "newlinechar" ∷ codes "language" ∷ codes "lefthyphenmin" ∷ codes "righthyphenmin" ∷
    codes "holdinginserts" ∷ codes "errorcontextlines" ∷ []

-- dimension parameters
unfoldable pub dimension_parameters : List (List ℕ)
dimension_parameters =
    codes "parindent" ∷ codes "mathsurround" ∷ codes "lineskiplimit" ∷ codes "hsize" ∷
    codes "vsize" ∷ codes "maxdepth" ∷ codes "splitmaxdepth" ∷ codes "boxmaxdepth" ∷
    codes "hfuzz" ∷ codes "vfuzz" ∷ codes "delimitershortfall" ∷ codes "nulldelimiterspace" ∷
    codes "scriptspace" ∷ codes "predisplaysize" ∷ codes "displaywidth" ∷
    codes "displayindent" ∷ codes "overfullrule" ∷ codes "hangindent" ∷ codes "hoffset" ∷
    codes "voffset" ∷ codes "emergencystretch" ∷ []

-- glue parameters
unfoldable pub glue_parameters : List (List ℕ)
glue_parameters =
    codes "lineskip" ∷ codes "baselineskip" ∷ codes "parskip" ∷ codes "abovedisplayskip" ∷
    codes "belowdisplayskip" ∷ codes "abovedisplayshortskip" ∷ codes "belowdisplayshortskip" ∷
    codes "leftskip" ∷ codes "rightskip" ∷ codes "topskip" ∷ codes "splittopskip" ∷
    codes "tabskip" ∷ codes "spaceskip" ∷ codes "xspaceskip" ∷ codes "parfillskip" ∷
    codes "thinmuskip" ∷ codes "medmuskip" ∷ codes "thickmuskip" ∷ []

-- token parameters
unfoldable pub token_parameters : List (List ℕ)
token_parameters =
    codes "output" ∷ codes "everypar" ∷ codes "everymath" ∷ codes "everydisplay" ∷
    codes "everyhbox" ∷ codes "everyvbox" ∷ codes "everyjob" ∷ codes "everycr" ∷
    codes "errhelp" ∷ []

-- other quantities
unfoldable pub quantity_names : List (List ℕ)
quantity_names =
    codes "count" ∷ codes "dimen" ∷ codes "skip" ∷ codes "muskip" ∷ codes "toks" ∷ codes "wd" ∷
    codes "ht" ∷ codes "dp" ∷ codes "catcode" ∷ codes "lccode" ∷ codes "uccode" ∷
    codes "sfcode" ∷ codes "mathcode" ∷ codes "delcode" ∷ codes "fontdimen" ∷
    codes "hyphenchar" ∷ codes "skewchar" ∷ codes "textfont" ∷ codes "scriptfont" ∷
    codes "scriptscriptfont" ∷ codes "parshape" ∷ codes "prevdepth" ∷ codes "spacefactor" ∷
    codes "prevgraf" ∷ codes "deadcycles" ∷ codes "insertpenalties" ∷ codes "pagegoal" ∷
    codes "pagetotal" ∷ codes "pagestretch" ∷ codes "pagefilstretch" ∷
    codes "pagefillstretch" ∷ codes "pagefilllstretch" ∷ codes "pageshrink" ∷
    codes "pagedepth" ∷ codes "lastpenalty" ∷ codes "lastkern" ∷ codes "lastskip" ∷
    codes "inputlineno" ∷ codes "badness" ∷ []

-- definitions and assignments
unfoldable pub assignment_names : List (List ℕ)
assignment_names =
    codes "def" ∷ codes "gdef" ∷ codes "edef" ∷ codes "xdef" ∷ codes "long" ∷ codes "outer" ∷
    codes "global" ∷ codes "let" ∷ codes "futurelet" ∷ codes "chardef" ∷ codes "mathchardef" ∷
    codes "countdef" ∷ codes "dimendef" ∷ codes "skipdef" ∷ codes "muskipdef" ∷
    codes "toksdef" ∷ codes "advance" ∷ codes "multiply" ∷ codes "divide" ∷ codes "setbox" ∷
    codes "font" ∷ codes "nullfont" ∷ codes "read" ∷ codes "batchmode" ∷ codes "nonstopmode" ∷
    codes "scrollmode" ∷ codes "errorstopmode" ∷ codes "afterassignment" ∷ codes "aftergroup" ∷
    codes "uppercase" ∷ codes "lowercase" ∷ []

-- groups and rest
unfoldable pub group_names : List (List ℕ)
group_names =
    codes "relax" ∷ codes "begingroup" ∷ codes "endgroup" ∷ codes "endcsname" ∷ codes "par" ∷
    codes "end" ∷ codes "ignorespaces" ∷ codes "message" ∷ codes "errmessage" ∷ codes "show" ∷
    codes "showthe" ∷ codes "openin" ∷ codes "closein" ∷ codes "openout" ∷ codes "closeout" ∷
    codes "write" ∷ codes "special" ∷ codes "immediate" ∷ codes "shipout" ∷ codes "mark" ∷ []

-- boxes and lists
unfoldable pub box_names : List (List ℕ)
box_names =
    codes "box" ∷ codes "copy" ∷ codes "lastbox" ∷ codes "vsplit" ∷ codes "hbox" ∷
    codes "vbox" ∷ codes "vtop" ∷ codes "unhbox" ∷ codes "unhcopy" ∷ codes "unvbox" ∷
    codes "unvcopy" ∷ codes "raise" ∷ codes "lower" ∷ codes "moveleft" ∷ codes "moveright" ∷
    codes "leaders" ∷ codes "cleaders" ∷ codes "xleaders" ∷ codes "hrule" ∷ codes "vrule" ∷
    codes "hskip" ∷ codes "hfil" ∷ codes "hfill" ∷ codes "hss" ∷ codes "hfilneg" ∷
    codes "vskip" ∷ codes "vfil" ∷ codes "vfill" ∷ codes "vss" ∷ codes "vfilneg" ∷
    codes "kern" ∷ codes "penalty" ∷ codes "unpenalty" ∷ codes "unkern" ∷ codes "unskip" ∷
    codes "insert" ∷ codes "vadjust" ∷ codes "indent" ∷ codes "noindent" ∷ codes "char" ∷
    codes "accent" ∷ codes "discretionary" ∷ codes "-" ∷ codes "/" ∷ codes "noboundary" ∷
    codes " " ∷ []

-- commands that this TeX leaves out
unfoldable pub left_out_names : List (List ℕ)
left_out_names =
    codes "halign" ∷ codes "valign" ∷ codes "noalign" ∷ codes "omit" ∷ codes "span" ∷
    codes "cr" ∷ codes "crcr" ∷ codes "patterns" ∷ codes "hyphenation" ∷ codes "setlanguage" ∷
    codes "dump" ∷ codes "showbox" ∷ codes "showlists" ∷ codes "mathchar" ∷
    codes "mathaccent" ∷ codes "delimiter" ∷ codes "radical" ∷ codes "mskip" ∷ codes "mkern" ∷
    codes "mathord" ∷ codes "mathop" ∷ codes "mathbin" ∷ codes "mathrel" ∷ codes "mathopen" ∷
    codes "mathclose" ∷ codes "mathpunct" ∷ codes "mathinner" ∷ codes "underline" ∷
    codes "overline" ∷ codes "mathchoice" ∷ codes "displaystyle" ∷ codes "textstyle" ∷
    codes "scriptstyle" ∷ codes "scriptscriptstyle" ∷ codes "left" ∷ codes "right" ∷
    codes "over" ∷ codes "atop" ∷ codes "above" ∷ codes "overwithdelims" ∷
    codes "atopwithdelims" ∷ codes "abovewithdelims" ∷ codes "limits" ∷ codes "nolimits" ∷
    codes "displaylimits" ∷ codes "nonscript" ∷ codes "vcenter" ∷ codes "eqno" ∷
    codes "leqno" ∷ []

-- expandable commands and conditions of e-TeX
unfoldable pub etex_expandable_names : List (List ℕ)
etex_expandable_names =
    codes "unexpanded" ∷ codes "detokenize" ∷ codes "scantokens" ∷ codes "unless" ∷
    codes "ifdefined" ∷ codes "ifcsname" ∷ codes "iffontchar" ∷ codes "topmarks" ∷
    codes "firstmarks" ∷ codes "botmarks" ∷ codes "splitfirstmarks" ∷ codes "splitbotmarks" ∷
    codes "eTeXrevision" ∷ []

-- quantities and arrays of e-TeX
abbrev pub etex_inner_quantities : List (List ℕ)
etex_inner_quantities =
    codes "numexpr" ∷ codes "dimexpr" ∷ codes "glueexpr" ∷ codes "muexpr" ∷
    codes "gluestretch" ∷ codes "glueshrink" ∷ codes "gluestretchorder" ∷
    codes "glueshrinkorder" ∷ codes "gluetomu" ∷ codes "mutoglue" ∷ codes "fontcharwd" ∷
    codes "fontcharht" ∷ codes "fontchardp" ∷ codes "fontcharic" ∷ codes "parshapelength" ∷
    codes "parshapeindent" ∷ codes "parshapedimen" ∷ codes "currentgrouplevel" ∷
    codes "currentgrouptype" ∷ codes "currentiflevel" ∷ codes "currentiftype" ∷
    codes "currentifbranch" ∷ codes "lastnodetype" ∷ codes "interactionmode" ∷
    codes "eTeXversion" ∷ codes "interlinepenalties" ∷ codes "clubpenalties" ∷
    codes "widowpenalties" ∷ codes "displaywidowpenalties" ∷ []

-- integer parameters of e-TeX
abbrev pub etex_integer_parameters : List (List ℕ)
etex_integer_parameters =
    codes "tracingassigns" ∷ codes "tracinggroups" ∷ codes "tracingifs" ∷
    codes "tracingscantokens" ∷ codes "tracingnesting" ∷ codes "savingvdiscards" ∷
    codes "savinghyphcodes" ∷ []

-- token parameters of e-TeX
abbrev pub etex_token_parameters : List (List ℕ)
etex_token_parameters = codes "everyeof" ∷ []

-- quantities, arrays and parameters of e-TeX
unfoldable pub etex_quantity_names : List (List ℕ)
etex_quantity_names = etex_inner_quantities ++ etex_integer_parameters ++ etex_token_parameters

-- other commands of e-TeX
unfoldable pub etex_other_names : List (List ℕ)
etex_other_names =
    codes "protected" ∷ codes "marks" ∷ codes "readline" ∷ codes "showtokens" ∷
    codes "pagediscards" ∷ codes "splitdiscards" ∷ []

-- commands of e-TeX that this TeX leaves out
unfoldable pub etex_left_out_names : List (List ℕ)
etex_left_out_names =
    codes "middle" ∷ codes "predisplaydirection" ∷ codes "lastlinefit" ∷ codes "TeXXeTstate" ∷
    codes "beginL" ∷ codes "endL" ∷ codes "beginR" ∷ codes "endR" ∷ codes "showgroups" ∷
    codes "showifs" ∷ []

-- the names of TeX
unfoldable pub compatibility_names : List (List ℕ)
compatibility_names =
    expandable_names ++ integer_parameters ++ dimension_parameters ++ glue_parameters ++ token_parameters
    ++ quantity_names ++ assignment_names ++ group_names ++ box_names ++ left_out_names

-- the names that e-TeX adds
unfoldable pub extended_names : List (List ℕ)
extended_names = etex_expandable_names ++ etex_quantity_names ++ etex_other_names ++ etex_left_out_names

-- both tables
unfoldable pub primitive_names : List (List ℕ)
primitive_names = compatibility_names ++ extended_names

-- how many names TeX has, and how many both have
abbrev pub compatibility_count : ℕ
compatibility_count = 325

abbrev pub all_count : ℕ
all_count = 391

-- what a primitive means at the start: the empty font for `\nullfont`, else itself
abbrev pub primitive_meaning : ℕ → Meaning
primitive_meaning code = if code == nullfont_code then Font 0 else Primitive code

-- how many of the names mean something at the start
abbrev pub primitive_count : Bool → ℕ
primitive_count extended = if extended then all_count else compatibility_count

-- what the name with this id means at the start, where both tables were entered first; without the
-- extended mode the names of e-TeX are undefined
abbrev pub start_meaning : Bool → ℕ → Meaning
start_meaning extended id = if nat_lt id (primitive_count extended) then primitive_meaning id else Undefined

-- the tables are so long
abbrev pub TablesHaveTheirLengths : Type 0
TablesHaveTheirLengths = (length compatibility_names ≡ compatibility_count) × (length primitive_names ≡ all_count)

pub length-compatibility_names : length compatibility_names ≡ compatibility_count
unfolding primitive_names compatibility_names extended_names expandable_names integer_parameters dimension_parameters glue_parameters token_parameters quantity_names assignment_names group_names box_names left_out_names etex_expandable_names etex_quantity_names etex_other_names etex_left_out_names
length-compatibility_names = refl

pub length-primitive_names : length primitive_names ≡ all_count
unfolding primitive_names compatibility_names extended_names expandable_names integer_parameters dimension_parameters glue_parameters token_parameters quantity_names assignment_names group_names box_names left_out_names etex_expandable_names etex_quantity_names etex_other_names etex_left_out_names
length-primitive_names = refl

-- whether no name of a list stands there again further on
abbrev are_apart : List (List ℕ) → Bool
are_apart [] = true
are_apart (name ∷ names) = not (is_some (place_of name names)) && are_apart names

apart_at : (name : List ℕ) (names : List (List ℕ)) (p : Option ℕ) → IsPlace name names p → not (is_some p) ≡ true
    → (j : ℕ) → j < length names → name_at names j ≢ name
apart_at name names None h none = h
apart_at name names (Some k) h none = λ j below. absurd (false≢true none)

primitives_apart : are_apart primitive_names ≡ true
unfolding primitive_names compatibility_names extended_names expandable_names integer_parameters dimension_parameters glue_parameters token_parameters quantity_names assignment_names group_names box_names left_out_names etex_expandable_names etex_quantity_names etex_other_names etex_left_out_names
primitives_apart = refl

distinct_from_apart : (names : List (List ℕ)) → are_apart names ≡ true → AreDistinct names
distinct_from_apart [] h i j before below = absurd (omega arith)
distinct_from_apart (name ∷ names) h i zero before below = absurd (omega arith)
distinct_from_apart (name ∷ names) h zero (suc j) before below =
    let p = and_parts (not (is_some (place_of name names))) (are_apart names) h in
    λ e. apart_at name names (place_of name names) (place_of-is name names) p.0 j (omega arith) (sym e)
distinct_from_apart (name ∷ names) h (suc i) (suc j) before below =
    let p = and_parts (not (is_some (place_of name names))) (are_apart names) h in
    distinct_from_apart names p.1 i j (omega arith) (omega arith)

-- no primitive has two codes
pub primitive_names-distinct : AreDistinct primitive_names
primitive_names-distinct = distinct_from_apart primitive_names primitives_apart
