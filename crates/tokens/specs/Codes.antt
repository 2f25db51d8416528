-- The code of each primitive, written out by its name: its place in the two tables of names, counted from 0. A
-- definition that speaks of a primitive takes its code from here. That each name has this place in the tables is the
-- law of `NamedCodes`.
use Rattle.std.specs.Prelude.{ℕ}

-- expandable commands and conditions
abbrev pub input_code : ℕ
input_code = 0

abbrev pub endinput_code : ℕ
endinput_code = 1

abbrev pub expandafter_code : ℕ
expandafter_code = 2

abbrev pub noexpand_code : ℕ
noexpand_code = 3

abbrev pub csname_code : ℕ
csname_code = 4

abbrev pub the_code : ℕ
the_code = 5

abbrev pub number_code : ℕ
number_code = 6

abbrev pub romannumeral_code : ℕ
romannumeral_code = 7

abbrev pub string_code : ℕ
string_code = 8

abbrev pub meaning_code : ℕ
meaning_code = 9

abbrev pub fontname_code : ℕ
fontname_code = 10

abbrev pub jobname_code : ℕ
jobname_code = 11

abbrev pub topmark_code : ℕ
topmark_code = 12

abbrev pub firstmark_code : ℕ
firstmark_code = 13

abbrev pub botmark_code : ℕ
botmark_code = 14

abbrev pub splitfirstmark_code : ℕ
splitfirstmark_code = 15

abbrev pub splitbotmark_code : ℕ
splitbotmark_code = 16

abbrev pub if_code : ℕ
if_code = 17

abbrev pub ifcat_code : ℕ
ifcat_code = 18

abbrev pub ifnum_code : ℕ
ifnum_code = 19

abbrev pub ifdim_code : ℕ
ifdim_code = 20

abbrev pub ifodd_code : ℕ
ifodd_code = 21

abbrev pub ifvmode_code : ℕ
ifvmode_code = 22

abbrev pub ifhmode_code : ℕ
ifhmode_code = 23

abbrev pub ifmmode_code : ℕ
ifmmode_code = 24

abbrev pub ifinner_code : ℕ
ifinner_code = 25

abbrev pub ifvoid_code : ℕ
ifvoid_code = 26

abbrev pub ifhbox_code : ℕ
ifhbox_code = 27

abbrev pub ifvbox_code : ℕ
ifvbox_code = 28

abbrev pub ifx_code : ℕ
ifx_code = 29

abbrev pub ifeof_code : ℕ
ifeof_code = 30

abbrev pub iftrue_code : ℕ
iftrue_code = 31

abbrev pub iffalse_code : ℕ
iffalse_code = 32

abbrev pub ifcase_code : ℕ
ifcase_code = 33

abbrev pub else_code : ℕ
else_code = 34

abbrev pub or_code : ℕ
or_code = 35

abbrev pub fi_code : ℕ
fi_code = 36

-- integer parameters
abbrev pub pretolerance_code : ℕ
pretolerance_code = 37

abbrev pub tolerance_code : ℕ
tolerance_code = 38

abbrev pub linepenalty_code : ℕ
linepenalty_code = 39

abbrev pub hyphenpenalty_code : ℕ
hyphenpenalty_code = 40

abbrev pub exhyphenpenalty_code : ℕ
exhyphenpenalty_code = 41

abbrev pub clubpenalty_code : ℕ
clubpenalty_code = 42

abbrev pub widowpenalty_code : ℕ
widowpenalty_code = 43

abbrev pub displaywidowpenalty_code : ℕ
displaywidowpenalty_code = 44

abbrev pub brokenpenalty_code : ℕ
brokenpenalty_code = 45

abbrev pub binoppenalty_code : ℕ
binoppenalty_code = 46

abbrev pub relpenalty_code : ℕ
relpenalty_code = 47

abbrev pub predisplaypenalty_code : ℕ
predisplaypenalty_code = 48

abbrev pub postdisplaypenalty_code : ℕ
postdisplaypenalty_code = 49

abbrev pub interlinepenalty_code : ℕ
interlinepenalty_code = 50

abbrev pub doublehyphendemerits_code : ℕ
doublehyphendemerits_code = 51

abbrev pub finalhyphendemerits_code : ℕ
finalhyphendemerits_code = 52

abbrev pub adjdemerits_code : ℕ
adjdemerits_code = 53

abbrev pub mag_code : ℕ
mag_code = 54

abbrev pub delimiterfactor_code : ℕ
delimiterfactor_code = 55

abbrev pub looseness_code : ℕ
looseness_code = 56

abbrev pub time_code : ℕ
time_code = 57

abbrev pub day_code : ℕ
day_code = 58

abbrev pub month_code : ℕ
month_code = 59

abbrev pub year_code : ℕ
year_code = 60

abbrev pub showboxbreadth_code : ℕ
showboxbreadth_code = 61

abbrev pub showboxdepth_code : ℕ
showboxdepth_code = 62

abbrev pub hbadness_code : ℕ
hbadness_code = 63

abbrev pub vbadness_code : ℕ
vbadness_code = 64

abbrev pub pausing_code : ℕ
pausing_code = 65

abbrev pub tracingonline_code : ℕ
tracingonline_code = 66

abbrev pub tracingmacros_code : ℕ
tracingmacros_code = 67

abbrev pub tracingstats_code : ℕ
tracingstats_code = 68

abbrev pub tracingparagraphs_code : ℕ
tracingparagraphs_code = 69

abbrev pub tracingpages_code : ℕ
tracingpages_code = 70

abbrev pub tracingoutput_code : ℕ
tracingoutput_code = 71

abbrev pub tracinglostchars_code : ℕ
tracinglostchars_code = 72

abbrev pub tracingcommands_code : ℕ
tracingcommands_code = 73

abbrev pub tracingrestores_code : ℕ
tracingrestores_code = 74

abbrev pub uchyph_code : ℕ
uchyph_code = 75

abbrev pub outputpenalty_code : ℕ
outputpenalty_code = 76

abbrev pub maxdeadcycles_code : ℕ
maxdeadcycles_code = 77

abbrev pub hangafter_code : ℕ
hangafter_code = 78

abbrev pub floatingpenalty_code : ℕ
floatingpenalty_code = 79

abbrev pub globaldefs_code : ℕ
globaldefs_code = 80

abbrev pub fam_code : ℕ
fam_code = 81

abbrev pub escapechar_code : ℕ
escapechar_code = 82

abbrev pub defaulthyphenchar_code : ℕ
defaulthyphenchar_code = 83

abbrev pub defaultskewchar_code : ℕ
defaultskewchar_code = 84

abbrev pub endlinechar_code : ℕ
endlinechar_code = 85

abbrev pub newlinechar_code : ℕ
newlinechar_code = 86

abbrev pub language_code : ℕ
language_code = 87

abbrev pub lefthyphenmin_code : ℕ
lefthyphenmin_code = 88

abbrev pub righthyphenmin_code : ℕ
righthyphenmin_code = 89

abbrev pub holdinginserts_code : ℕ
holdinginserts_code = 90

abbrev pub errorcontextlines_code : ℕ
errorcontextlines_code = 91

-- dimension parameters
abbrev pub parindent_code : ℕ
parindent_code = 92

abbrev pub mathsurround_code : ℕ
mathsurround_code = 93

abbrev pub lineskiplimit_code : ℕ
lineskiplimit_code = 94

abbrev pub hsize_code : ℕ
hsize_code = 95

abbrev pub vsize_code : ℕ
vsize_code = 96

abbrev pub maxdepth_code : ℕ
maxdepth_code = 97

abbrev pub splitmaxdepth_code : ℕ
splitmaxdepth_code = 98

abbrev pub boxmaxdepth_code : ℕ
boxmaxdepth_code = 99

abbrev pub hfuzz_code : ℕ
hfuzz_code = 100

abbrev pub vfuzz_code : ℕ
vfuzz_code = 101

abbrev pub delimitershortfall_code : ℕ
delimitershortfall_code = 102

abbrev pub nulldelimiterspace_code : ℕ
nulldelimiterspace_code = 103

abbrev pub scriptspace_code : ℕ
scriptspace_code = 104

abbrev pub predisplaysize_code : ℕ
predisplaysize_code = 105

abbrev pub displaywidth_code : ℕ
displaywidth_code = 106

abbrev pub displayindent_code : ℕ
displayindent_code = 107

abbrev pub overfullrule_code : ℕ
overfullrule_code = 108

abbrev pub hangindent_code : ℕ
hangindent_code = 109

abbrev pub hoffset_code : ℕ
hoffset_code = 110

abbrev pub voffset_code : ℕ
voffset_code = 111

abbrev pub emergencystretch_code : ℕ
emergencystretch_code = 112

-- glue parameters
abbrev pub lineskip_code : ℕ
lineskip_code = 113

abbrev pub baselineskip_code : ℕ
baselineskip_code = 114

abbrev pub parskip_code : ℕ
parskip_code = 115

abbrev pub abovedisplayskip_code : ℕ
abovedisplayskip_code = 116

abbrev pub belowdisplayskip_code : ℕ
belowdisplayskip_code = 117

abbrev pub abovedisplayshortskip_code : ℕ
abovedisplayshortskip_code = 118

abbrev pub belowdisplayshortskip_code : ℕ
belowdisplayshortskip_code = 119

abbrev pub leftskip_code : ℕ
leftskip_code = 120

abbrev pub rightskip_code : ℕ
rightskip_code = 121

abbrev pub topskip_code : ℕ
topskip_code = 122

abbrev pub splittopskip_code : ℕ
splittopskip_code = 123

abbrev pub tabskip_code : ℕ
tabskip_code = 124

abbrev pub spaceskip_code : ℕ
spaceskip_code = 125

abbrev pub xspaceskip_code : ℕ
xspaceskip_code = 126

abbrev pub parfillskip_code : ℕ
parfillskip_code = 127

abbrev pub thinmuskip_code : ℕ
thinmuskip_code = 128

abbrev pub medmuskip_code : ℕ
medmuskip_code = 129

abbrev pub thickmuskip_code : ℕ
thickmuskip_code = 130

-- token parameters
abbrev pub output_code : ℕ
output_code = 131

abbrev pub everypar_code : ℕ
everypar_code = 132

abbrev pub everymath_code : ℕ
everymath_code = 133

abbrev pub everydisplay_code : ℕ
everydisplay_code = 134

abbrev pub everyhbox_code : ℕ
everyhbox_code = 135

abbrev pub everyvbox_code : ℕ
everyvbox_code = 136

abbrev pub everyjob_code : ℕ
everyjob_code = 137

abbrev pub everycr_code : ℕ
everycr_code = 138

abbrev pub errhelp_code : ℕ
errhelp_code = 139

-- other quantities
abbrev pub count_code : ℕ
count_code = 140

abbrev pub dimen_code : ℕ
dimen_code = 141

abbrev pub skip_code : ℕ
skip_code = 142

abbrev pub muskip_code : ℕ
muskip_code = 143

abbrev pub toks_code : ℕ
toks_code = 144

abbrev pub wd_code : ℕ
wd_code = 145

abbrev pub ht_code : ℕ
ht_code = 146

abbrev pub dp_code : ℕ
dp_code = 147

abbrev pub catcode_code : ℕ
catcode_code = 148

abbrev pub lccode_code : ℕ
lccode_code = 149

abbrev pub uccode_code : ℕ
uccode_code = 150

abbrev pub sfcode_code : ℕ
sfcode_code = 151

abbrev pub mathcode_code : ℕ
mathcode_code = 152

abbrev pub delcode_code : ℕ
delcode_code = 153

abbrev pub fontdimen_code : ℕ
fontdimen_code = 154

abbrev pub hyphenchar_code : ℕ
hyphenchar_code = 155

abbrev pub skewchar_code : ℕ
skewchar_code = 156

abbrev pub textfont_code : ℕ
textfont_code = 157

abbrev pub scriptfont_code : ℕ
scriptfont_code = 158

abbrev pub scriptscriptfont_code : ℕ
scriptscriptfont_code = 159

abbrev pub parshape_code : ℕ
parshape_code = 160

abbrev pub prevdepth_code : ℕ
prevdepth_code = 161

abbrev pub spacefactor_code : ℕ
spacefactor_code = 162

abbrev pub prevgraf_code : ℕ
prevgraf_code = 163

abbrev pub deadcycles_code : ℕ
deadcycles_code = 164

abbrev pub insertpenalties_code : ℕ
insertpenalties_code = 165

abbrev pub pagegoal_code : ℕ
pagegoal_code = 166

abbrev pub pagetotal_code : ℕ
pagetotal_code = 167

abbrev pub pagestretch_code : ℕ
pagestretch_code = 168

abbrev pub pagefilstretch_code : ℕ
pagefilstretch_code = 169

abbrev pub pagefillstretch_code : ℕ
pagefillstretch_code = 170

abbrev pub pagefilllstretch_code : ℕ
pagefilllstretch_code = 171

abbrev pub pageshrink_code : ℕ
pageshrink_code = 172

abbrev pub pagedepth_code : ℕ
pagedepth_code = 173

abbrev pub lastpenalty_code : ℕ
lastpenalty_code = 174

abbrev pub lastkern_code : ℕ
lastkern_code = 175

abbrev pub lastskip_code : ℕ
lastskip_code = 176

abbrev pub inputlineno_code : ℕ
inputlineno_code = 177

abbrev pub badness_code : ℕ
badness_code = 178

-- definitions and assignments
abbrev pub def_code : ℕ
def_code = 179

abbrev pub gdef_code : ℕ
gdef_code = 180

abbrev pub edef_code : ℕ
edef_code = 181

abbrev pub xdef_code : ℕ
xdef_code = 182

abbrev pub long_code : ℕ
long_code = 183

abbrev pub outer_code : ℕ
outer_code = 184

abbrev pub global_code : ℕ
global_code = 185

abbrev pub let_code : ℕ
let_code = 186

abbrev pub futurelet_code : ℕ
futurelet_code = 187

abbrev pub chardef_code : ℕ
chardef_code = 188

abbrev pub mathchardef_code : ℕ
mathchardef_code = 189

abbrev pub countdef_code : ℕ
countdef_code = 190

abbrev pub dimendef_code : ℕ
dimendef_code = 191

abbrev pub skipdef_code : ℕ
skipdef_code = 192

abbrev pub muskipdef_code : ℕ
muskipdef_code = 193

abbrev pub toksdef_code : ℕ
toksdef_code = 194

abbrev pub advance_code : ℕ
advance_code = 195

abbrev pub multiply_code : ℕ
multiply_code = 196

abbrev pub divide_code : ℕ
divide_code = 197

abbrev pub setbox_code : ℕ
setbox_code = 198

abbrev pub font_code : ℕ
font_code = 199

abbrev pub nullfont_code : ℕ
nullfont_code = 200

abbrev pub read_code : ℕ
read_code = 201

abbrev pub batchmode_code : ℕ
batchmode_code = 202

abbrev pub nonstopmode_code : ℕ
nonstopmode_code = 203

abbrev pub scrollmode_code : ℕ
scrollmode_code = 204

abbrev pub errorstopmode_code : ℕ
errorstopmode_code = 205

abbrev pub afterassignment_code : ℕ
afterassignment_code = 206

abbrev pub aftergroup_code : ℕ
aftergroup_code = 207

abbrev pub uppercase_code : ℕ
uppercase_code = 208

abbrev pub lowercase_code : ℕ
lowercase_code = 209

-- groups and rest
abbrev pub relax_code : ℕ
relax_code = 210

abbrev pub begingroup_code : ℕ
begingroup_code = 211

abbrev pub endgroup_code : ℕ
endgroup_code = 212

abbrev pub endcsname_code : ℕ
endcsname_code = 213

abbrev pub par_code : ℕ
par_code = 214

abbrev pub end_code : ℕ
end_code = 215

abbrev pub ignorespaces_code : ℕ
ignorespaces_code = 216

abbrev pub message_code : ℕ
message_code = 217

abbrev pub errmessage_code : ℕ
errmessage_code = 218

abbrev pub show_code : ℕ
show_code = 219

abbrev pub showthe_code : ℕ
showthe_code = 220

abbrev pub openin_code : ℕ
openin_code = 221

abbrev pub closein_code : ℕ
closein_code = 222

abbrev pub openout_code : ℕ
openout_code = 223

abbrev pub closeout_code : ℕ
closeout_code = 224

abbrev pub write_code : ℕ
write_code = 225

abbrev pub special_code : ℕ
special_code = 226

abbrev pub immediate_code : ℕ
immediate_code = 227

abbrev pub shipout_code : ℕ
shipout_code = 228

abbrev pub mark_code : ℕ
mark_code = 229

-- boxes and lists
abbrev pub box_code : ℕ
box_code = 230

abbrev pub copy_code : ℕ
copy_code = 231

abbrev pub lastbox_code : ℕ
lastbox_code = 232

abbrev pub vsplit_code : ℕ
vsplit_code = 233

abbrev pub hbox_code : ℕ
hbox_code = 234

abbrev pub vbox_code : ℕ
vbox_code = 235

abbrev pub vtop_code : ℕ
vtop_code = 236

abbrev pub unhbox_code : ℕ
unhbox_code = 237

abbrev pub unhcopy_code : ℕ
unhcopy_code = 238

abbrev pub unvbox_code : ℕ
unvbox_code = 239

abbrev pub unvcopy_code : ℕ
unvcopy_code = 240

abbrev pub raise_code : ℕ
raise_code = 241

abbrev pub lower_code : ℕ
lower_code = 242

abbrev pub moveleft_code : ℕ
moveleft_code = 243

abbrev pub moveright_code : ℕ
moveright_code = 244

abbrev pub leaders_code : ℕ
leaders_code = 245

abbrev pub cleaders_code : ℕ
cleaders_code = 246

abbrev pub xleaders_code : ℕ
xleaders_code = 247

abbrev pub hrule_code : ℕ
hrule_code = 248

abbrev pub vrule_code : ℕ
vrule_code = 249

abbrev pub hskip_code : ℕ
hskip_code = 250

abbrev pub hfil_code : ℕ
hfil_code = 251

abbrev pub hfill_code : ℕ
hfill_code = 252

abbrev pub hss_code : ℕ
hss_code = 253

abbrev pub hfilneg_code : ℕ
hfilneg_code = 254

abbrev pub vskip_code : ℕ
vskip_code = 255

abbrev pub vfil_code : ℕ
vfil_code = 256

abbrev pub vfill_code : ℕ
vfill_code = 257

abbrev pub vss_code : ℕ
vss_code = 258

abbrev pub vfilneg_code : ℕ
vfilneg_code = 259

abbrev pub kern_code : ℕ
kern_code = 260

abbrev pub penalty_code : ℕ
penalty_code = 261

abbrev pub unpenalty_code : ℕ
unpenalty_code = 262

abbrev pub unkern_code : ℕ
unkern_code = 263

abbrev pub unskip_code : ℕ
unskip_code = 264

abbrev pub insert_code : ℕ
insert_code = 265

abbrev pub vadjust_code : ℕ
vadjust_code = 266

abbrev pub indent_code : ℕ
indent_code = 267

abbrev pub noindent_code : ℕ
noindent_code = 268

abbrev pub char_code : ℕ
char_code = 269

abbrev pub accent_code : ℕ
accent_code = 270

abbrev pub discretionary_code : ℕ
discretionary_code = 271

abbrev pub discretionary_hyphen_code : ℕ
discretionary_hyphen_code = 272

abbrev pub italic_correction_code : ℕ
italic_correction_code = 273

abbrev pub noboundary_code : ℕ
noboundary_code = 274

abbrev pub control_space_code : ℕ
control_space_code = 275

-- commands that this TeX leaves out
abbrev pub halign_code : ℕ
halign_code = 276

abbrev pub valign_code : ℕ
valign_code = 277

abbrev pub noalign_code : ℕ
noalign_code = 278

abbrev pub omit_code : ℕ
omit_code = 279

abbrev pub span_code : ℕ
span_code = 280

abbrev pub cr_code : ℕ
cr_code = 281

abbrev pub crcr_code : ℕ
crcr_code = 282

abbrev pub patterns_code : ℕ
patterns_code = 283

abbrev pub hyphenation_code : ℕ
hyphenation_code = 284

abbrev pub setlanguage_code : ℕ
setlanguage_code = 285

abbrev pub dump_code : ℕ
dump_code = 286

abbrev pub showbox_code : ℕ
showbox_code = 287

abbrev pub showlists_code : ℕ
showlists_code = 288

abbrev pub mathchar_code : ℕ
mathchar_code = 289

abbrev pub mathaccent_code : ℕ
mathaccent_code = 290

abbrev pub delimiter_code : ℕ
delimiter_code = 291

abbrev pub radical_code : ℕ
radical_code = 292

abbrev pub mskip_code : ℕ
mskip_code = 293

abbrev pub mkern_code : ℕ
mkern_code = 294

abbrev pub mathord_code : ℕ
mathord_code = 295

abbrev pub mathop_code : ℕ
mathop_code = 296

abbrev pub mathbin_code : ℕ
mathbin_code = 297

abbrev pub mathrel_code : ℕ
mathrel_code = 298

abbrev pub mathopen_code : ℕ
mathopen_code = 299

abbrev pub mathclose_code : ℕ
mathclose_code = 300

abbrev pub mathpunct_code : ℕ
mathpunct_code = 301

abbrev pub mathinner_code : ℕ
mathinner_code = 302

abbrev pub underline_code : ℕ
underline_code = 303

abbrev pub overline_code : ℕ
overline_code = 304

abbrev pub mathchoice_code : ℕ
mathchoice_code = 305

abbrev pub displaystyle_code : ℕ
displaystyle_code = 306

abbrev pub textstyle_code : ℕ
textstyle_code = 307

abbrev pub scriptstyle_code : ℕ
scriptstyle_code = 308

abbrev pub scriptscriptstyle_code : ℕ
scriptscriptstyle_code = 309

abbrev pub left_code : ℕ
left_code = 310

abbrev pub right_code : ℕ
right_code = 311

abbrev pub over_code : ℕ
over_code = 312

abbrev pub atop_code : ℕ
atop_code = 313

abbrev pub above_code : ℕ
above_code = 314

abbrev pub overwithdelims_code : ℕ
overwithdelims_code = 315

abbrev pub atopwithdelims_code : ℕ
atopwithdelims_code = 316

abbrev pub abovewithdelims_code : ℕ
abovewithdelims_code = 317

abbrev pub limits_code : ℕ
limits_code = 318

abbrev pub nolimits_code : ℕ
nolimits_code = 319

abbrev pub displaylimits_code : ℕ
displaylimits_code = 320

abbrev pub nonscript_code : ℕ
nonscript_code = 321

abbrev pub vcenter_code : ℕ
vcenter_code = 322

abbrev pub eqno_code : ℕ
eqno_code = 323

abbrev pub leqno_code : ℕ
leqno_code = 324

-- expandable commands and conditions of e-TeX
abbrev pub unexpanded_code : ℕ
unexpanded_code = 325

abbrev pub detokenize_code : ℕ
detokenize_code = 326

abbrev pub scantokens_code : ℕ
scantokens_code = 327

abbrev pub unless_code : ℕ
unless_code = 328

abbrev pub ifdefined_code : ℕ
ifdefined_code = 329

abbrev pub ifcsname_code : ℕ
ifcsname_code = 330

abbrev pub iffontchar_code : ℕ
iffontchar_code = 331

abbrev pub topmarks_code : ℕ
topmarks_code = 332

abbrev pub firstmarks_code : ℕ
firstmarks_code = 333

abbrev pub botmarks_code : ℕ
botmarks_code = 334

abbrev pub splitfirstmarks_code : ℕ
splitfirstmarks_code = 335

abbrev pub splitbotmarks_code : ℕ
splitbotmarks_code = 336

abbrev pub etex_revision_code : ℕ
etex_revision_code = 337

-- quantities, arrays and parameters of e-TeX
abbrev pub numexpr_code : ℕ
numexpr_code = 338

abbrev pub dimexpr_code : ℕ
dimexpr_code = 339

abbrev pub glueexpr_code : ℕ
glueexpr_code = 340

abbrev pub muexpr_code : ℕ
muexpr_code = 341

abbrev pub gluestretch_code : ℕ
gluestretch_code = 342

abbrev pub glueshrink_code : ℕ
glueshrink_code = 343

abbrev pub gluestretchorder_code : ℕ
gluestretchorder_code = 344

abbrev pub glueshrinkorder_code : ℕ
glueshrinkorder_code = 345

abbrev pub gluetomu_code : ℕ
gluetomu_code = 346

abbrev pub mutoglue_code : ℕ
mutoglue_code = 347

abbrev pub fontcharwd_code : ℕ
fontcharwd_code = 348

abbrev pub fontcharht_code : ℕ
fontcharht_code = 349

abbrev pub fontchardp_code : ℕ
fontchardp_code = 350

abbrev pub fontcharic_code : ℕ
fontcharic_code = 351

abbrev pub parshapelength_code : ℕ
parshapelength_code = 352

abbrev pub parshapeindent_code : ℕ
parshapeindent_code = 353

abbrev pub parshapedimen_code : ℕ
parshapedimen_code = 354

abbrev pub currentgrouplevel_code : ℕ
currentgrouplevel_code = 355

abbrev pub currentgrouptype_code : ℕ
currentgrouptype_code = 356

abbrev pub currentiflevel_code : ℕ
currentiflevel_code = 357

abbrev pub currentiftype_code : ℕ
currentiftype_code = 358

abbrev pub currentifbranch_code : ℕ
currentifbranch_code = 359

abbrev pub lastnodetype_code : ℕ
lastnodetype_code = 360

abbrev pub interactionmode_code : ℕ
interactionmode_code = 361

abbrev pub etex_version_code : ℕ
etex_version_code = 362

abbrev pub interlinepenalties_code : ℕ
interlinepenalties_code = 363

abbrev pub clubpenalties_code : ℕ
clubpenalties_code = 364

abbrev pub widowpenalties_code : ℕ
widowpenalties_code = 365

abbrev pub displaywidowpenalties_code : ℕ
displaywidowpenalties_code = 366

abbrev pub tracingassigns_code : ℕ
tracingassigns_code = 367

abbrev pub tracinggroups_code : ℕ
tracinggroups_code = 368

abbrev pub tracingifs_code : ℕ
tracingifs_code = 369

abbrev pub tracingscantokens_code : ℕ
tracingscantokens_code = 370

abbrev pub tracingnesting_code : ℕ
tracingnesting_code = 371

abbrev pub savingvdiscards_code : ℕ
savingvdiscards_code = 372

abbrev pub savinghyphcodes_code : ℕ
savinghyphcodes_code = 373

abbrev pub everyeof_code : ℕ
everyeof_code = 374

-- other commands of e-TeX
abbrev pub protected_code : ℕ
protected_code = 375

abbrev pub marks_code : ℕ
marks_code = 376

abbrev pub readline_code : ℕ
readline_code = 377

abbrev pub showtokens_code : ℕ
showtokens_code = 378

abbrev pub pagediscards_code : ℕ
pagediscards_code = 379

abbrev pub splitdiscards_code : ℕ
splitdiscards_code = 380

-- commands of e-TeX that this TeX leaves out
abbrev pub middle_code : ℕ
middle_code = 381

abbrev pub predisplaydirection_code : ℕ
predisplaydirection_code = 382

abbrev pub lastlinefit_code : ℕ
lastlinefit_code = 383

abbrev pub texxet_state_code : ℕ
texxet_state_code = 384

abbrev pub begin_l_code : ℕ
begin_l_code = 385

abbrev pub end_l_code : ℕ
end_l_code = 386

abbrev pub begin_r_code : ℕ
begin_r_code = 387

abbrev pub end_r_code : ℕ
end_r_code = 388

abbrev pub showgroups_code : ℕ
showgroups_code = 389

abbrev pub showifs_code : ℕ
showifs_code = 390
