-- The place of each parameter among all of them: the integer parameters, then the dimensions, the glues and the token
-- lists, in the order of the tables of primitives, then the integer parameters that e-TeX adds, and `\everyeof` (The
-- TeXbook, chapter 24; the e-TeX manual). A place is written out here by the parameter's name, and the law below says
-- that these are the parameters of the tables, counted through from 0.
use Rattle.std.specs.Prelude.{◌≡◌, ℕ, ◌+◌, List, [], ◌∷◌, ◌++◌, length, codes, refl}
use Rattle.tokens.specs.Primitives.{integer_parameters, dimension_parameters, glue_parameters, token_parameters, etex_integer_parameters, etex_token_parameters}
use Rattle.tokens.specs.Numbered.{Numbered, named, numbered}

-- integer parameters
abbrev pub pretolerance_place : ℕ
pretolerance_place = 0

abbrev pub tolerance_place : ℕ
tolerance_place = 1

abbrev pub linepenalty_place : ℕ
linepenalty_place = 2

abbrev pub hyphenpenalty_place : ℕ
hyphenpenalty_place = 3

abbrev pub exhyphenpenalty_place : ℕ
exhyphenpenalty_place = 4

abbrev pub clubpenalty_place : ℕ
clubpenalty_place = 5

abbrev pub widowpenalty_place : ℕ
widowpenalty_place = 6

abbrev pub displaywidowpenalty_place : ℕ
displaywidowpenalty_place = 7

abbrev pub brokenpenalty_place : ℕ
brokenpenalty_place = 8

abbrev pub binoppenalty_place : ℕ
binoppenalty_place = 9

abbrev pub relpenalty_place : ℕ
relpenalty_place = 10

abbrev pub predisplaypenalty_place : ℕ
predisplaypenalty_place = 11

abbrev pub postdisplaypenalty_place : ℕ
postdisplaypenalty_place = 12

abbrev pub interlinepenalty_place : ℕ
interlinepenalty_place = 13

abbrev pub doublehyphendemerits_place : ℕ
doublehyphendemerits_place = 14

abbrev pub finalhyphendemerits_place : ℕ
finalhyphendemerits_place = 15

abbrev pub adjdemerits_place : ℕ
adjdemerits_place = 16

abbrev pub mag_place : ℕ
mag_place = 17

abbrev pub delimiterfactor_place : ℕ
delimiterfactor_place = 18

abbrev pub looseness_place : ℕ
looseness_place = 19

abbrev pub time_place : ℕ
time_place = 20

abbrev pub day_place : ℕ
day_place = 21

abbrev pub month_place : ℕ
month_place = 22

abbrev pub year_place : ℕ
year_place = 23

abbrev pub showboxbreadth_place : ℕ
showboxbreadth_place = 24

abbrev pub showboxdepth_place : ℕ
showboxdepth_place = 25

abbrev pub hbadness_place : ℕ
hbadness_place = 26

abbrev pub vbadness_place : ℕ
vbadness_place = 27

abbrev pub pausing_place : ℕ
pausing_place = 28

abbrev pub tracingonline_place : ℕ
tracingonline_place = 29

abbrev pub tracingmacros_place : ℕ
tracingmacros_place = 30

abbrev pub tracingstats_place : ℕ
tracingstats_place = 31

abbrev pub tracingparagraphs_place : ℕ
tracingparagraphs_place = 32

abbrev pub tracingpages_place : ℕ
tracingpages_place = 33

abbrev pub tracingoutput_place : ℕ
tracingoutput_place = 34

abbrev pub tracinglostchars_place : ℕ
tracinglostchars_place = 35

abbrev pub tracingcommands_place : ℕ
tracingcommands_place = 36

abbrev pub tracingrestores_place : ℕ
tracingrestores_place = 37

abbrev pub uchyph_place : ℕ
uchyph_place = 38

abbrev pub outputpenalty_place : ℕ
outputpenalty_place = 39

abbrev pub maxdeadcycles_place : ℕ
maxdeadcycles_place = 40

abbrev pub hangafter_place : ℕ
hangafter_place = 41

abbrev pub floatingpenalty_place : ℕ
floatingpenalty_place = 42

abbrev pub globaldefs_place : ℕ
globaldefs_place = 43

abbrev pub fam_place : ℕ
fam_place = 44

abbrev pub escapechar_place : ℕ
escapechar_place = 45

abbrev pub defaulthyphenchar_place : ℕ
defaulthyphenchar_place = 46

abbrev pub defaultskewchar_place : ℕ
defaultskewchar_place = 47

abbrev pub endlinechar_place : ℕ
endlinechar_place = 48

abbrev pub newlinechar_place : ℕ
newlinechar_place = 49

abbrev pub language_place : ℕ
language_place = 50

abbrev pub lefthyphenmin_place : ℕ
lefthyphenmin_place = 51

abbrev pub righthyphenmin_place : ℕ
righthyphenmin_place = 52

abbrev pub holdinginserts_place : ℕ
holdinginserts_place = 53

abbrev pub errorcontextlines_place : ℕ
errorcontextlines_place = 54

-- dimension parameters
abbrev pub parindent_place : ℕ
parindent_place = 55

abbrev pub mathsurround_place : ℕ
mathsurround_place = 56

abbrev pub lineskiplimit_place : ℕ
lineskiplimit_place = 57

abbrev pub hsize_place : ℕ
hsize_place = 58

abbrev pub vsize_place : ℕ
vsize_place = 59

abbrev pub maxdepth_place : ℕ
maxdepth_place = 60

abbrev pub splitmaxdepth_place : ℕ
splitmaxdepth_place = 61

abbrev pub boxmaxdepth_place : ℕ
boxmaxdepth_place = 62

abbrev pub hfuzz_place : ℕ
hfuzz_place = 63

abbrev pub vfuzz_place : ℕ
vfuzz_place = 64

abbrev pub delimitershortfall_place : ℕ
delimitershortfall_place = 65

abbrev pub nulldelimiterspace_place : ℕ
nulldelimiterspace_place = 66

abbrev pub scriptspace_place : ℕ
scriptspace_place = 67

abbrev pub predisplaysize_place : ℕ
predisplaysize_place = 68

abbrev pub displaywidth_place : ℕ
displaywidth_place = 69

abbrev pub displayindent_place : ℕ
displayindent_place = 70

abbrev pub overfullrule_place : ℕ
overfullrule_place = 71

abbrev pub hangindent_place : ℕ
hangindent_place = 72

abbrev pub hoffset_place : ℕ
hoffset_place = 73

abbrev pub voffset_place : ℕ
voffset_place = 74

abbrev pub emergencystretch_place : ℕ
emergencystretch_place = 75

-- glue parameters
abbrev pub lineskip_place : ℕ
lineskip_place = 76

abbrev pub baselineskip_place : ℕ
baselineskip_place = 77

abbrev pub parskip_place : ℕ
parskip_place = 78

abbrev pub abovedisplayskip_place : ℕ
abovedisplayskip_place = 79

abbrev pub belowdisplayskip_place : ℕ
belowdisplayskip_place = 80

abbrev pub abovedisplayshortskip_place : ℕ
abovedisplayshortskip_place = 81

abbrev pub belowdisplayshortskip_place : ℕ
belowdisplayshortskip_place = 82

abbrev pub leftskip_place : ℕ
leftskip_place = 83

abbrev pub rightskip_place : ℕ
rightskip_place = 84

abbrev pub topskip_place : ℕ
topskip_place = 85

abbrev pub splittopskip_place : ℕ
splittopskip_place = 86

abbrev pub tabskip_place : ℕ
tabskip_place = 87

abbrev pub spaceskip_place : ℕ
spaceskip_place = 88

abbrev pub xspaceskip_place : ℕ
xspaceskip_place = 89

abbrev pub parfillskip_place : ℕ
parfillskip_place = 90

abbrev pub thinmuskip_place : ℕ
thinmuskip_place = 91

abbrev pub medmuskip_place : ℕ
medmuskip_place = 92

abbrev pub thickmuskip_place : ℕ
thickmuskip_place = 93

-- token parameters
abbrev pub output_place : ℕ
output_place = 94

abbrev pub everypar_place : ℕ
everypar_place = 95

abbrev pub everymath_place : ℕ
everymath_place = 96

abbrev pub everydisplay_place : ℕ
everydisplay_place = 97

abbrev pub everyhbox_place : ℕ
everyhbox_place = 98

abbrev pub everyvbox_place : ℕ
everyvbox_place = 99

abbrev pub everyjob_place : ℕ
everyjob_place = 100

abbrev pub everycr_place : ℕ
everycr_place = 101

abbrev pub errhelp_place : ℕ
errhelp_place = 102

-- integer parameters of e-TeX
abbrev pub tracingassigns_place : ℕ
tracingassigns_place = 103

abbrev pub tracinggroups_place : ℕ
tracinggroups_place = 104

abbrev pub tracingifs_place : ℕ
tracingifs_place = 105

abbrev pub tracingscantokens_place : ℕ
tracingscantokens_place = 106

abbrev pub tracingnesting_place : ℕ
tracingnesting_place = 107

abbrev pub savingvdiscards_place : ℕ
savingvdiscards_place = 108

abbrev pub savinghyphcodes_place : ℕ
savinghyphcodes_place = 109

-- token parameters of e-TeX
abbrev pub everyeof_place : ℕ
everyeof_place = 110

-- the first place of each kind, and how many parameters there are
abbrev pub first_dimension_place : ℕ
first_dimension_place = 55

abbrev pub first_glue_place : ℕ
first_glue_place = 76

abbrev pub first_token_place : ℕ
first_token_place = 94

abbrev pub first_extended_place : ℕ
first_extended_place = 103

abbrev pub all_parameter_count : ℕ
all_parameter_count = 111

-- integer parameters, each beside its place
unfoldable pub integer_places : List Numbered
integer_places =
    named (codes "pretolerance") pretolerance_place ∷ named (codes "tolerance") tolerance_place ∷
    named (codes "linepenalty") linepenalty_place ∷ named (codes "hyphenpenalty") hyphenpenalty_place ∷
    named (codes "exhyphenpenalty") exhyphenpenalty_place ∷ named (codes "clubpenalty") clubpenalty_place ∷
    named (codes "widowpenalty") widowpenalty_place ∷
    named (codes "displaywidowpenalty") displaywidowpenalty_place ∷
    named (codes "brokenpenalty") brokenpenalty_place ∷ named (codes "binoppenalty") binoppenalty_place ∷
    named (codes "relpenalty") relpenalty_place ∷ named (codes "predisplaypenalty") predisplaypenalty_place ∷
    named (codes "postdisplaypenalty") postdisplaypenalty_place ∷
    named (codes "interlinepenalty") interlinepenalty_place ∷
    named (codes "doublehyphendemerits") doublehyphendemerits_place ∷
    named (codes "finalhyphendemerits") finalhyphendemerits_place ∷
    named (codes "adjdemerits") adjdemerits_place ∷ named (codes "mag") mag_place ∷
    named (codes "delimiterfactor") delimiterfactor_place ∷ named (codes "looseness") looseness_place ∷
    named (codes "time") time_place ∷ named (codes "day") day_place ∷ named (codes "month") month_place ∷
    named (codes "year") year_place ∷ named (codes "showboxbreadth") showboxbreadth_place ∷
    named (codes "showboxdepth") showboxdepth_place ∷ named (codes "hbadness") hbadness_place ∷
    named (codes "vbadness") vbadness_place ∷ named (codes "pausing") pausing_place ∷
    named (codes "tracingonline") tracingonline_place ∷ named (codes "tracingmacros") tracingmacros_place ∷
    named (codes "tracingstats") tracingstats_place ∷
    named (codes "tracingparagraphs") tracingparagraphs_place ∷
    named (codes "tracingpages") tracingpages_place ∷ named (codes "tracingoutput") tracingoutput_place ∷
    named (codes "tracinglostchars") tracinglostchars_place ∷
    named (codes "tracingcommands") tracingcommands_place ∷
    named (codes "tracingrestores") tracingrestores_place ∷ named (codes "uchyph") uchyph_place ∷
    named (codes "outputpenalty") outputpenalty_place ∷ named (codes "maxdeadcycles") maxdeadcycles_place ∷
    named (codes "hangafter") hangafter_place ∷ named (codes "floatingpenalty") floatingpenalty_place ∷
    named (codes "globaldefs") globaldefs_place ∷ named (codes "fam") fam_place ∷
    named (codes "escapechar") escapechar_place ∷ named (codes "defaulthyphenchar") defaulthyphenchar_place ∷
    named (codes "defaultskewchar") defaultskewchar_place ∷ named (codes "endlinechar") endlinechar_place ∷
    named (codes "newlinechar") newlinechar_place ∷ named (codes "language") language_place ∷
    named (codes "lefthyphenmin") lefthyphenmin_place ∷ named (codes "righthyphenmin") righthyphenmin_place ∷
    named (codes "holdinginserts") holdinginserts_place ∷
    named (codes "errorcontextlines") errorcontextlines_place ∷ []

-- dimension parameters, each beside its place
unfoldable pub dimension_places : List Numbered
dimension_places =
    named (codes "parindent") parindent_place ∷ named (codes "mathsurround") mathsurround_place ∷
    named (codes "lineskiplimit") lineskiplimit_place ∷ named (codes "hsize") hsize_place ∷
    named (codes "vsize") vsize_place ∷ named (codes "maxdepth") maxdepth_place ∷
    named (codes "splitmaxdepth") splitmaxdepth_place ∷ named (codes "boxmaxdepth") boxmaxdepth_place ∷
    named (codes "hfuzz") hfuzz_place ∷ named (codes "vfuzz") vfuzz_place ∷
    named (codes "delimitershortfall") delimitershortfall_place ∷
    named (codes "nulldelimiterspace") nulldelimiterspace_place ∷
    named (codes "scriptspace") scriptspace_place ∷ named (codes "predisplaysize") predisplaysize_place ∷
    named (codes "displaywidth") displaywidth_place ∷ named (codes "displayindent") displayindent_place ∷
    named (codes "overfullrule") overfullrule_place ∷ named (codes "hangindent") hangindent_place ∷
    named (codes "hoffset") hoffset_place ∷ named (codes "voffset") voffset_place ∷
    named (codes "emergencystretch") emergencystretch_place ∷ []

-- glue parameters, each beside its place
unfoldable pub glue_places : List Numbered
glue_places =
    named (codes "lineskip") lineskip_place ∷ named (codes "baselineskip") baselineskip_place ∷
    named (codes "parskip") parskip_place ∷ named (codes "abovedisplayskip") abovedisplayskip_place ∷
    named (codes "belowdisplayskip") belowdisplayskip_place ∷
    named (codes "abovedisplayshortskip") abovedisplayshortskip_place ∷
    named (codes "belowdisplayshortskip") belowdisplayshortskip_place ∷
    named (codes "leftskip") leftskip_place ∷ named (codes "rightskip") rightskip_place ∷
    named (codes "topskip") topskip_place ∷ named (codes "splittopskip") splittopskip_place ∷
    named (codes "tabskip") tabskip_place ∷ named (codes "spaceskip") spaceskip_place ∷
    named (codes "xspaceskip") xspaceskip_place ∷ named (codes "parfillskip") parfillskip_place ∷
    named (codes "thinmuskip") thinmuskip_place ∷ named (codes "medmuskip") medmuskip_place ∷
    named (codes "thickmuskip") thickmuskip_place ∷ []

-- token parameters, each beside its place
unfoldable pub token_places : List Numbered
token_places =
    named (codes "output") output_place ∷ named (codes "everypar") everypar_place ∷
    named (codes "everymath") everymath_place ∷ named (codes "everydisplay") everydisplay_place ∷
    named (codes "everyhbox") everyhbox_place ∷ named (codes "everyvbox") everyvbox_place ∷
    named (codes "everyjob") everyjob_place ∷ named (codes "everycr") everycr_place ∷
    named (codes "errhelp") errhelp_place ∷ []

-- integer parameters of e-TeX, each beside its place
unfoldable pub etex_integer_places : List Numbered
etex_integer_places =
    named (codes "tracingassigns") tracingassigns_place ∷ named (codes "tracinggroups") tracinggroups_place ∷
    named (codes "tracingifs") tracingifs_place ∷ named (codes "tracingscantokens") tracingscantokens_place ∷
    named (codes "tracingnesting") tracingnesting_place ∷
    named (codes "savingvdiscards") savingvdiscards_place ∷
    named (codes "savinghyphcodes") savinghyphcodes_place ∷ []

-- token parameters of e-TeX, each beside its place
unfoldable pub etex_token_places : List Numbered
etex_token_places =
    named (codes "everyeof") everyeof_place ∷ []

-- every parameter beside its place
unfoldable pub named_places : List Numbered
named_places = integer_places ++ dimension_places ++ glue_places ++ token_places ++ etex_integer_places ++ etex_token_places

-- the parameters of both tables
unfoldable pub parameter_names : List (List ℕ)
parameter_names =
    integer_parameters ++ dimension_parameters ++ glue_parameters ++ token_parameters ++ etex_integer_parameters
    ++ etex_token_parameters

-- each parameter has its place
abbrev pub PlacesAreCountedThrough : Type 0
PlacesAreCountedThrough = named_places ≡ numbered 0 parameter_names

-- each kind begins where the one before it ends
abbrev pub KindsOfParametersFollow : Type 0
KindsOfParametersFollow =
    (first_dimension_place ≡ length integer_parameters)
    × (first_glue_place ≡ first_dimension_place + length dimension_parameters)
    × (first_token_place ≡ first_glue_place + length glue_parameters)
    × (first_extended_place ≡ first_token_place + length token_parameters)
    × (everyeof_place ≡ first_extended_place + length etex_integer_parameters)
    × (all_parameter_count ≡ length parameter_names)

pub places-counted_through : PlacesAreCountedThrough
unfolding named_places integer_places dimension_places glue_places token_places etex_integer_places etex_token_places parameter_names integer_parameters dimension_parameters glue_parameters token_parameters
places-counted_through = refl

pub kinds-follow : KindsOfParametersFollow
unfolding parameter_names integer_parameters dimension_parameters glue_parameters token_parameters
kinds-follow = (refl, refl, refl, refl, refl, refl)
