-- Each name of a primitive beside its code, in the order of the tables; and the law that these are the tables, counted
-- through from 0. So no code belongs to another name, and none is left out.
use Rattle.std.specs.Prelude.{◌≡◌, List, [], ◌∷◌, ◌++◌, codes, refl}
use Rattle.tokens.specs.Primitives.{primitive_names, compatibility_names, extended_names, expandable_names, integer_parameters, dimension_parameters, glue_parameters, token_parameters, quantity_names, assignment_names, group_names, box_names, left_out_names, etex_expandable_names, etex_quantity_names, etex_other_names, etex_left_out_names}
use Rattle.tokens.specs.Codes.{input_code, endinput_code, expandafter_code, noexpand_code, csname_code, the_code, number_code, romannumeral_code, string_code, meaning_code, fontname_code, jobname_code, topmark_code, firstmark_code, botmark_code, splitfirstmark_code, splitbotmark_code, if_code, ifcat_code, ifnum_code, ifdim_code, ifodd_code, ifvmode_code, ifhmode_code, ifmmode_code, ifinner_code, ifvoid_code, ifhbox_code, ifvbox_code, ifx_code, ifeof_code, iftrue_code, iffalse_code, ifcase_code, else_code, or_code, fi_code, pretolerance_code, tolerance_code, linepenalty_code, hyphenpenalty_code, exhyphenpenalty_code, clubpenalty_code, widowpenalty_code, displaywidowpenalty_code, brokenpenalty_code, binoppenalty_code, relpenalty_code, predisplaypenalty_code, postdisplaypenalty_code, interlinepenalty_code, doublehyphendemerits_code, finalhyphendemerits_code, adjdemerits_code, mag_code, delimiterfactor_code, looseness_code, time_code, day_code, month_code, year_code, showboxbreadth_code, showboxdepth_code, hbadness_code, vbadness_code, pausing_code, tracingonline_code, tracingmacros_code, tracingstats_code, tracingparagraphs_code, tracingpages_code, tracingoutput_code, tracinglostchars_code, tracingcommands_code, tracingrestores_code, uchyph_code, outputpenalty_code, maxdeadcycles_code, hangafter_code, floatingpenalty_code, globaldefs_code, fam_code, escapechar_code, defaulthyphenchar_code, defaultskewchar_code, endlinechar_code, newlinechar_code, language_code, lefthyphenmin_code, righthyphenmin_code, holdinginserts_code, errorcontextlines_code, parindent_code, mathsurround_code, lineskiplimit_code, hsize_code, vsize_code, maxdepth_code, splitmaxdepth_code, boxmaxdepth_code, hfuzz_code, vfuzz_code, delimitershortfall_code, nulldelimiterspace_code, scriptspace_code, predisplaysize_code, displaywidth_code, displayindent_code, overfullrule_code, hangindent_code, hoffset_code, voffset_code, emergencystretch_code, lineskip_code, baselineskip_code, parskip_code, abovedisplayskip_code, belowdisplayskip_code, abovedisplayshortskip_code, belowdisplayshortskip_code, leftskip_code, rightskip_code, topskip_code, splittopskip_code, tabskip_code, spaceskip_code, xspaceskip_code, parfillskip_code, thinmuskip_code, medmuskip_code, thickmuskip_code, output_code, everypar_code, everymath_code, everydisplay_code, everyhbox_code, everyvbox_code, everyjob_code, everycr_code, errhelp_code, count_code, dimen_code, skip_code, muskip_code, toks_code, wd_code, ht_code, dp_code, catcode_code, lccode_code, uccode_code, sfcode_code, mathcode_code, delcode_code, fontdimen_code, hyphenchar_code, skewchar_code, textfont_code, scriptfont_code, scriptscriptfont_code, parshape_code, prevdepth_code, spacefactor_code, prevgraf_code, deadcycles_code, insertpenalties_code, pagegoal_code, pagetotal_code, pagestretch_code, pagefilstretch_code, pagefillstretch_code, pagefilllstretch_code, pageshrink_code, pagedepth_code, lastpenalty_code, lastkern_code, lastskip_code, inputlineno_code, badness_code, def_code, gdef_code, edef_code, xdef_code, long_code, outer_code, global_code, let_code, futurelet_code, chardef_code, mathchardef_code, countdef_code, dimendef_code, skipdef_code, muskipdef_code, toksdef_code, advance_code, multiply_code, divide_code, setbox_code, font_code, nullfont_code, read_code, batchmode_code, nonstopmode_code, scrollmode_code, errorstopmode_code, afterassignment_code, aftergroup_code, uppercase_code, lowercase_code, relax_code, begingroup_code, endgroup_code, endcsname_code, par_code, end_code, ignorespaces_code, message_code, errmessage_code, show_code, showthe_code, openin_code, closein_code, openout_code, closeout_code, write_code, special_code, immediate_code, shipout_code, mark_code, box_code, copy_code, lastbox_code, vsplit_code, hbox_code, vbox_code, vtop_code, unhbox_code, unhcopy_code, unvbox_code, unvcopy_code, raise_code, lower_code, moveleft_code, moveright_code, leaders_code, cleaders_code, xleaders_code, hrule_code, vrule_code, hskip_code, hfil_code, hfill_code, hss_code, hfilneg_code, vskip_code, vfil_code, vfill_code, vss_code, vfilneg_code, kern_code, penalty_code, unpenalty_code, unkern_code, unskip_code, insert_code, vadjust_code, indent_code, noindent_code, char_code, accent_code, discretionary_code, discretionary_hyphen_code, italic_correction_code, noboundary_code, control_space_code, halign_code, valign_code, noalign_code, omit_code, span_code, cr_code, crcr_code, patterns_code, hyphenation_code, setlanguage_code, dump_code, showbox_code, showlists_code, mathchar_code, mathaccent_code, delimiter_code, radical_code, mskip_code, mkern_code, mathord_code, mathop_code, mathbin_code, mathrel_code, mathopen_code, mathclose_code, mathpunct_code, mathinner_code, underline_code, overline_code, mathchoice_code, displaystyle_code, textstyle_code, scriptstyle_code, scriptscriptstyle_code, left_code, right_code, over_code, atop_code, above_code, overwithdelims_code, atopwithdelims_code, abovewithdelims_code, limits_code, nolimits_code, displaylimits_code, nonscript_code, vcenter_code, eqno_code, leqno_code, unexpanded_code, detokenize_code, scantokens_code, unless_code, ifdefined_code, ifcsname_code, iffontchar_code, topmarks_code, firstmarks_code, botmarks_code, splitfirstmarks_code, splitbotmarks_code, etex_revision_code, numexpr_code, dimexpr_code, glueexpr_code, muexpr_code, gluestretch_code, glueshrink_code, gluestretchorder_code, glueshrinkorder_code, gluetomu_code, mutoglue_code, fontcharwd_code, fontcharht_code, fontchardp_code, fontcharic_code, parshapelength_code, parshapeindent_code, parshapedimen_code, currentgrouplevel_code, currentgrouptype_code, currentiflevel_code, currentiftype_code, currentifbranch_code, lastnodetype_code, interactionmode_code, etex_version_code, interlinepenalties_code, clubpenalties_code, widowpenalties_code, displaywidowpenalties_code, tracingassigns_code, tracinggroups_code, tracingifs_code, tracingscantokens_code, tracingnesting_code, savingvdiscards_code, savinghyphcodes_code, everyeof_code, protected_code, marks_code, readline_code, showtokens_code, pagediscards_code, splitdiscards_code, middle_code, predisplaydirection_code, lastlinefit_code, texxet_state_code, begin_l_code, end_l_code, begin_r_code, end_r_code, showgroups_code, showifs_code}
use Rattle.tokens.specs.Numbered.{Numbered, named, numbered}

-- expandable commands and conditions, each beside its code
unfoldable pub expandable_codes : List Numbered
expandable_codes =
    named (codes "input") input_code ∷ named (codes "endinput") endinput_code ∷
    named (codes "expandafter") expandafter_code ∷ named (codes "noexpand") noexpand_code ∷
    named (codes "csname") csname_code ∷ named (codes "the") the_code ∷ named (codes "number") number_code ∷
    named (codes "romannumeral") romannumeral_code ∷ named (codes "string") string_code ∷
    named (codes "meaning") meaning_code ∷ named (codes "fontname") fontname_code ∷
    named (codes "jobname") jobname_code ∷ named (codes "topmark") topmark_code ∷
    named (codes "firstmark") firstmark_code ∷ named (codes "botmark") botmark_code ∷
    named (codes "splitfirstmark") splitfirstmark_code ∷ named (codes "splitbotmark") splitbotmark_code ∷
    named (codes "if") if_code ∷ named (codes "ifcat") ifcat_code ∷ named (codes "ifnum") ifnum_code ∷
    named (codes "ifdim") ifdim_code ∷ named (codes "ifodd") ifodd_code ∷
    named (codes "ifvmode") ifvmode_code ∷ named (codes "ifhmode") ifhmode_code ∷
    named (codes "ifmmode") ifmmode_code ∷ named (codes "ifinner") ifinner_code ∷
    named (codes "ifvoid") ifvoid_code ∷ named (codes "ifhbox") ifhbox_code ∷
    named (codes "ifvbox") ifvbox_code ∷ named (codes "ifx") ifx_code ∷ named (codes "ifeof") ifeof_code ∷
    named (codes "iftrue") iftrue_code ∷ named (codes "iffalse") iffalse_code ∷
    named (codes "ifcase") ifcase_code ∷ named (codes "else") else_code ∷ named (codes "or") or_code ∷
    named (codes "fi") fi_code ∷ []

-- integer parameters, each beside its code
unfoldable pub integer_parameter_codes : List Numbered
integer_parameter_codes =
    named (codes "pretolerance") pretolerance_code ∷ named (codes "tolerance") tolerance_code ∷
    named (codes "linepenalty") linepenalty_code ∷ named (codes "hyphenpenalty") hyphenpenalty_code ∷
    named (codes "exhyphenpenalty") exhyphenpenalty_code ∷ named (codes "clubpenalty") clubpenalty_code ∷
    named (codes "widowpenalty") widowpenalty_code ∷
    named (codes "displaywidowpenalty") displaywidowpenalty_code ∷
    named (codes "brokenpenalty") brokenpenalty_code ∷ named (codes "binoppenalty") binoppenalty_code ∷
    named (codes "relpenalty") relpenalty_code ∷ named (codes "predisplaypenalty") predisplaypenalty_code ∷
    named (codes "postdisplaypenalty") postdisplaypenalty_code ∷
    named (codes "interlinepenalty") interlinepenalty_code ∷
    named (codes "doublehyphendemerits") doublehyphendemerits_code ∷
    named (codes "finalhyphendemerits") finalhyphendemerits_code ∷
    named (codes "adjdemerits") adjdemerits_code ∷ named (codes "mag") mag_code ∷
    named (codes "delimiterfactor") delimiterfactor_code ∷ named (codes "looseness") looseness_code ∷
    named (codes "time") time_code ∷ named (codes "day") day_code ∷ named (codes "month") month_code ∷
    named (codes "year") year_code ∷ named (codes "showboxbreadth") showboxbreadth_code ∷
    named (codes "showboxdepth") showboxdepth_code ∷ named (codes "hbadness") hbadness_code ∷
    named (codes "vbadness") vbadness_code ∷ named (codes "pausing") pausing_code ∷
    named (codes "tracingonline") tracingonline_code ∷ named (codes "tracingmacros") tracingmacros_code ∷
    named (codes "tracingstats") tracingstats_code ∷ named (codes "tracingparagraphs") tracingparagraphs_code ∷
    named (codes "tracingpages") tracingpages_code ∷ named (codes "tracingoutput") tracingoutput_code ∷
    named (codes "tracinglostchars") tracinglostchars_code ∷
    named (codes "tracingcommands") tracingcommands_code ∷
    named (codes "tracingrestores") tracingrestores_code ∷ named (codes "uchyph") uchyph_code ∷
    named (codes "outputpenalty") outputpenalty_code ∷ named (codes "maxdeadcycles") maxdeadcycles_code ∷
    named (codes "hangafter") hangafter_code ∷ named (codes "floatingpenalty") floatingpenalty_code ∷
    named (codes "globaldefs") globaldefs_code ∷ named (codes "fam") fam_code ∷
    named (codes "escapechar") escapechar_code ∷ named (codes "defaulthyphenchar") defaulthyphenchar_code ∷
    named (codes "defaultskewchar") defaultskewchar_code ∷ named (codes "endlinechar") endlinechar_code ∷
    named (codes "newlinechar") newlinechar_code ∷ named (codes "language") language_code ∷
    named (codes "lefthyphenmin") lefthyphenmin_code ∷ named (codes "righthyphenmin") righthyphenmin_code ∷
    named (codes "holdinginserts") holdinginserts_code ∷
    named (codes "errorcontextlines") errorcontextlines_code ∷ []

-- dimension parameters, each beside its code
unfoldable pub dimension_parameter_codes : List Numbered
dimension_parameter_codes =
    named (codes "parindent") parindent_code ∷ named (codes "mathsurround") mathsurround_code ∷
    named (codes "lineskiplimit") lineskiplimit_code ∷ named (codes "hsize") hsize_code ∷
    named (codes "vsize") vsize_code ∷ named (codes "maxdepth") maxdepth_code ∷
    named (codes "splitmaxdepth") splitmaxdepth_code ∷ named (codes "boxmaxdepth") boxmaxdepth_code ∷
    named (codes "hfuzz") hfuzz_code ∷ named (codes "vfuzz") vfuzz_code ∷
    named (codes "delimitershortfall") delimitershortfall_code ∷
    named (codes "nulldelimiterspace") nulldelimiterspace_code ∷ named (codes "scriptspace") scriptspace_code ∷
    named (codes "predisplaysize") predisplaysize_code ∷ named (codes "displaywidth") displaywidth_code ∷
    named (codes "displayindent") displayindent_code ∷ named (codes "overfullrule") overfullrule_code ∷
    named (codes "hangindent") hangindent_code ∷ named (codes "hoffset") hoffset_code ∷
    named (codes "voffset") voffset_code ∷ named (codes "emergencystretch") emergencystretch_code ∷ []

-- glue parameters, each beside its code
unfoldable pub glue_parameter_codes : List Numbered
glue_parameter_codes =
    named (codes "lineskip") lineskip_code ∷ named (codes "baselineskip") baselineskip_code ∷
    named (codes "parskip") parskip_code ∷ named (codes "abovedisplayskip") abovedisplayskip_code ∷
    named (codes "belowdisplayskip") belowdisplayskip_code ∷
    named (codes "abovedisplayshortskip") abovedisplayshortskip_code ∷
    named (codes "belowdisplayshortskip") belowdisplayshortskip_code ∷ named (codes "leftskip") leftskip_code ∷
    named (codes "rightskip") rightskip_code ∷ named (codes "topskip") topskip_code ∷
    named (codes "splittopskip") splittopskip_code ∷ named (codes "tabskip") tabskip_code ∷
    named (codes "spaceskip") spaceskip_code ∷ named (codes "xspaceskip") xspaceskip_code ∷
    named (codes "parfillskip") parfillskip_code ∷ named (codes "thinmuskip") thinmuskip_code ∷
    named (codes "medmuskip") medmuskip_code ∷ named (codes "thickmuskip") thickmuskip_code ∷ []

-- token parameters, each beside its code
unfoldable pub token_parameter_codes : List Numbered
token_parameter_codes =
    named (codes "output") output_code ∷ named (codes "everypar") everypar_code ∷
    named (codes "everymath") everymath_code ∷ named (codes "everydisplay") everydisplay_code ∷
    named (codes "everyhbox") everyhbox_code ∷ named (codes "everyvbox") everyvbox_code ∷
    named (codes "everyjob") everyjob_code ∷ named (codes "everycr") everycr_code ∷
    named (codes "errhelp") errhelp_code ∷ []

-- other quantities, each beside its code
unfoldable pub quantity_codes : List Numbered
quantity_codes =
    named (codes "count") count_code ∷ named (codes "dimen") dimen_code ∷ named (codes "skip") skip_code ∷
    named (codes "muskip") muskip_code ∷ named (codes "toks") toks_code ∷ named (codes "wd") wd_code ∷
    named (codes "ht") ht_code ∷ named (codes "dp") dp_code ∷ named (codes "catcode") catcode_code ∷
    named (codes "lccode") lccode_code ∷ named (codes "uccode") uccode_code ∷
    named (codes "sfcode") sfcode_code ∷ named (codes "mathcode") mathcode_code ∷
    named (codes "delcode") delcode_code ∷ named (codes "fontdimen") fontdimen_code ∷
    named (codes "hyphenchar") hyphenchar_code ∷ named (codes "skewchar") skewchar_code ∷
    named (codes "textfont") textfont_code ∷ named (codes "scriptfont") scriptfont_code ∷
    named (codes "scriptscriptfont") scriptscriptfont_code ∷ named (codes "parshape") parshape_code ∷
    named (codes "prevdepth") prevdepth_code ∷ named (codes "spacefactor") spacefactor_code ∷
    named (codes "prevgraf") prevgraf_code ∷ named (codes "deadcycles") deadcycles_code ∷
    named (codes "insertpenalties") insertpenalties_code ∷ named (codes "pagegoal") pagegoal_code ∷
    named (codes "pagetotal") pagetotal_code ∷ named (codes "pagestretch") pagestretch_code ∷
    named (codes "pagefilstretch") pagefilstretch_code ∷ named (codes "pagefillstretch") pagefillstretch_code ∷
    named (codes "pagefilllstretch") pagefilllstretch_code ∷ named (codes "pageshrink") pageshrink_code ∷
    named (codes "pagedepth") pagedepth_code ∷ named (codes "lastpenalty") lastpenalty_code ∷
    named (codes "lastkern") lastkern_code ∷ named (codes "lastskip") lastskip_code ∷
    named (codes "inputlineno") inputlineno_code ∷ named (codes "badness") badness_code ∷ []

-- definitions and assignments, each beside its code
unfoldable pub assignment_codes : List Numbered
assignment_codes =
    named (codes "def") def_code ∷ named (codes "gdef") gdef_code ∷ named (codes "edef") edef_code ∷
    named (codes "xdef") xdef_code ∷ named (codes "long") long_code ∷ named (codes "outer") outer_code ∷
    named (codes "global") global_code ∷ named (codes "let") let_code ∷
    named (codes "futurelet") futurelet_code ∷ named (codes "chardef") chardef_code ∷
    named (codes "mathchardef") mathchardef_code ∷ named (codes "countdef") countdef_code ∷
    named (codes "dimendef") dimendef_code ∷ named (codes "skipdef") skipdef_code ∷
    named (codes "muskipdef") muskipdef_code ∷ named (codes "toksdef") toksdef_code ∷
    named (codes "advance") advance_code ∷ named (codes "multiply") multiply_code ∷
    named (codes "divide") divide_code ∷ named (codes "setbox") setbox_code ∷ named (codes "font") font_code ∷
    named (codes "nullfont") nullfont_code ∷ named (codes "read") read_code ∷
    named (codes "batchmode") batchmode_code ∷ named (codes "nonstopmode") nonstopmode_code ∷
    named (codes "scrollmode") scrollmode_code ∷ named (codes "errorstopmode") errorstopmode_code ∷
    named (codes "afterassignment") afterassignment_code ∷ named (codes "aftergroup") aftergroup_code ∷
    named (codes "uppercase") uppercase_code ∷ named (codes "lowercase") lowercase_code ∷ []

-- groups and rest, each beside its code
unfoldable pub group_codes : List Numbered
group_codes =
    named (codes "relax") relax_code ∷ named (codes "begingroup") begingroup_code ∷
    named (codes "endgroup") endgroup_code ∷ named (codes "endcsname") endcsname_code ∷
    named (codes "par") par_code ∷ named (codes "end") end_code ∷
    named (codes "ignorespaces") ignorespaces_code ∷ named (codes "message") message_code ∷
    named (codes "errmessage") errmessage_code ∷ named (codes "show") show_code ∷
    named (codes "showthe") showthe_code ∷ named (codes "openin") openin_code ∷
    named (codes "closein") closein_code ∷ named (codes "openout") openout_code ∷
    named (codes "closeout") closeout_code ∷ named (codes "write") write_code ∷
    named (codes "special") special_code ∷ named (codes "immediate") immediate_code ∷
    named (codes "shipout") shipout_code ∷ named (codes "mark") mark_code ∷ []

-- boxes and lists, each beside its code
unfoldable pub box_codes : List Numbered
box_codes =
    named (codes "box") box_code ∷ named (codes "copy") copy_code ∷ named (codes "lastbox") lastbox_code ∷
    named (codes "vsplit") vsplit_code ∷ named (codes "hbox") hbox_code ∷ named (codes "vbox") vbox_code ∷
    named (codes "vtop") vtop_code ∷ named (codes "unhbox") unhbox_code ∷
    named (codes "unhcopy") unhcopy_code ∷ named (codes "unvbox") unvbox_code ∷
    named (codes "unvcopy") unvcopy_code ∷ named (codes "raise") raise_code ∷
    named (codes "lower") lower_code ∷ named (codes "moveleft") moveleft_code ∷
    named (codes "moveright") moveright_code ∷ named (codes "leaders") leaders_code ∷
    named (codes "cleaders") cleaders_code ∷ named (codes "xleaders") xleaders_code ∷
    named (codes "hrule") hrule_code ∷ named (codes "vrule") vrule_code ∷ named (codes "hskip") hskip_code ∷
    named (codes "hfil") hfil_code ∷ named (codes "hfill") hfill_code ∷ named (codes "hss") hss_code ∷
    named (codes "hfilneg") hfilneg_code ∷ named (codes "vskip") vskip_code ∷ named (codes "vfil") vfil_code ∷
    named (codes "vfill") vfill_code ∷ named (codes "vss") vss_code ∷ named (codes "vfilneg") vfilneg_code ∷
    named (codes "kern") kern_code ∷ named (codes "penalty") penalty_code ∷
    named (codes "unpenalty") unpenalty_code ∷ named (codes "unkern") unkern_code ∷
    named (codes "unskip") unskip_code ∷ named (codes "insert") insert_code ∷
    named (codes "vadjust") vadjust_code ∷ named (codes "indent") indent_code ∷
    named (codes "noindent") noindent_code ∷ named (codes "char") char_code ∷
    named (codes "accent") accent_code ∷ named (codes "discretionary") discretionary_code ∷
    named (codes "-") discretionary_hyphen_code ∷ named (codes "/") italic_correction_code ∷
    named (codes "noboundary") noboundary_code ∷ named (codes " ") control_space_code ∷ []

-- commands that this TeX leaves out, each beside its code
unfoldable pub left_out_codes : List Numbered
left_out_codes =
    named (codes "halign") halign_code ∷ named (codes "valign") valign_code ∷
    named (codes "noalign") noalign_code ∷ named (codes "omit") omit_code ∷ named (codes "span") span_code ∷
    named (codes "cr") cr_code ∷ named (codes "crcr") crcr_code ∷ named (codes "patterns") patterns_code ∷
    named (codes "hyphenation") hyphenation_code ∷ named (codes "setlanguage") setlanguage_code ∷
    named (codes "dump") dump_code ∷ named (codes "showbox") showbox_code ∷
    named (codes "showlists") showlists_code ∷ named (codes "mathchar") mathchar_code ∷
    named (codes "mathaccent") mathaccent_code ∷ named (codes "delimiter") delimiter_code ∷
    named (codes "radical") radical_code ∷ named (codes "mskip") mskip_code ∷
    named (codes "mkern") mkern_code ∷ named (codes "mathord") mathord_code ∷
    named (codes "mathop") mathop_code ∷ named (codes "mathbin") mathbin_code ∷
    named (codes "mathrel") mathrel_code ∷ named (codes "mathopen") mathopen_code ∷
    named (codes "mathclose") mathclose_code ∷ named (codes "mathpunct") mathpunct_code ∷
    named (codes "mathinner") mathinner_code ∷ named (codes "underline") underline_code ∷
    named (codes "overline") overline_code ∷ named (codes "mathchoice") mathchoice_code ∷
    named (codes "displaystyle") displaystyle_code ∷ named (codes "textstyle") textstyle_code ∷
    named (codes "scriptstyle") scriptstyle_code ∷ named (codes "scriptscriptstyle") scriptscriptstyle_code ∷
    named (codes "left") left_code ∷ named (codes "right") right_code ∷ named (codes "over") over_code ∷
    named (codes "atop") atop_code ∷ named (codes "above") above_code ∷
    named (codes "overwithdelims") overwithdelims_code ∷ named (codes "atopwithdelims") atopwithdelims_code ∷
    named (codes "abovewithdelims") abovewithdelims_code ∷ named (codes "limits") limits_code ∷
    named (codes "nolimits") nolimits_code ∷ named (codes "displaylimits") displaylimits_code ∷
    named (codes "nonscript") nonscript_code ∷ named (codes "vcenter") vcenter_code ∷
    named (codes "eqno") eqno_code ∷ named (codes "leqno") leqno_code ∷ []

-- expandable commands and conditions of e-TeX, each beside its code
unfoldable pub etex_expandable_codes : List Numbered
etex_expandable_codes =
    named (codes "unexpanded") unexpanded_code ∷ named (codes "detokenize") detokenize_code ∷
    named (codes "scantokens") scantokens_code ∷ named (codes "unless") unless_code ∷
    named (codes "ifdefined") ifdefined_code ∷ named (codes "ifcsname") ifcsname_code ∷
    named (codes "iffontchar") iffontchar_code ∷ named (codes "topmarks") topmarks_code ∷
    named (codes "firstmarks") firstmarks_code ∷ named (codes "botmarks") botmarks_code ∷
    named (codes "splitfirstmarks") splitfirstmarks_code ∷ named (codes "splitbotmarks") splitbotmarks_code ∷
    named (codes "eTeXrevision") etex_revision_code ∷ []

-- quantities, arrays and parameters of e-TeX, each beside its code
unfoldable pub etex_quantity_codes : List Numbered
etex_quantity_codes =
    named (codes "numexpr") numexpr_code ∷ named (codes "dimexpr") dimexpr_code ∷
    named (codes "glueexpr") glueexpr_code ∷ named (codes "muexpr") muexpr_code ∷
    named (codes "gluestretch") gluestretch_code ∷ named (codes "glueshrink") glueshrink_code ∷
    named (codes "gluestretchorder") gluestretchorder_code ∷
    named (codes "glueshrinkorder") glueshrinkorder_code ∷ named (codes "gluetomu") gluetomu_code ∷
    named (codes "mutoglue") mutoglue_code ∷ named (codes "fontcharwd") fontcharwd_code ∷
    named (codes "fontcharht") fontcharht_code ∷ named (codes "fontchardp") fontchardp_code ∷
    named (codes "fontcharic") fontcharic_code ∷ named (codes "parshapelength") parshapelength_code ∷
    named (codes "parshapeindent") parshapeindent_code ∷ named (codes "parshapedimen") parshapedimen_code ∷
    named (codes "currentgrouplevel") currentgrouplevel_code ∷
    named (codes "currentgrouptype") currentgrouptype_code ∷
    named (codes "currentiflevel") currentiflevel_code ∷ named (codes "currentiftype") currentiftype_code ∷
    named (codes "currentifbranch") currentifbranch_code ∷ named (codes "lastnodetype") lastnodetype_code ∷
    named (codes "interactionmode") interactionmode_code ∷ named (codes "eTeXversion") etex_version_code ∷
    named (codes "interlinepenalties") interlinepenalties_code ∷
    named (codes "clubpenalties") clubpenalties_code ∷ named (codes "widowpenalties") widowpenalties_code ∷
    named (codes "displaywidowpenalties") displaywidowpenalties_code ∷
    named (codes "tracingassigns") tracingassigns_code ∷ named (codes "tracinggroups") tracinggroups_code ∷
    named (codes "tracingifs") tracingifs_code ∷ named (codes "tracingscantokens") tracingscantokens_code ∷
    named (codes "tracingnesting") tracingnesting_code ∷ named (codes "savingvdiscards") savingvdiscards_code ∷
    named (codes "savinghyphcodes") savinghyphcodes_code ∷ named (codes "everyeof") everyeof_code ∷ []

-- other commands of e-TeX, each beside its code
unfoldable pub etex_other_codes : List Numbered
etex_other_codes =
    named (codes "protected") protected_code ∷ named (codes "marks") marks_code ∷
    named (codes "readline") readline_code ∷ named (codes "showtokens") showtokens_code ∷
    named (codes "pagediscards") pagediscards_code ∷ named (codes "splitdiscards") splitdiscards_code ∷ []

-- commands of e-TeX that this TeX leaves out, each beside its code
unfoldable pub etex_left_out_codes : List Numbered
etex_left_out_codes =
    named (codes "middle") middle_code ∷ named (codes "predisplaydirection") predisplaydirection_code ∷
    named (codes "lastlinefit") lastlinefit_code ∷ named (codes "TeXXeTstate") texxet_state_code ∷
    named (codes "beginL") begin_l_code ∷ named (codes "endL") end_l_code ∷
    named (codes "beginR") begin_r_code ∷ named (codes "endR") end_r_code ∷
    named (codes "showgroups") showgroups_code ∷ named (codes "showifs") showifs_code ∷ []

-- every primitive beside its code
unfoldable pub named_codes : List Numbered
named_codes =
    expandable_codes ++ integer_parameter_codes ++ dimension_parameter_codes ++ glue_parameter_codes
    ++ token_parameter_codes ++ quantity_codes ++ assignment_codes ++ group_codes ++ box_codes ++ left_out_codes
    ++ etex_expandable_codes ++ etex_quantity_codes ++ etex_other_codes ++ etex_left_out_codes

-- each name has its place in the tables as its code
abbrev pub CodesAreCountedThrough : Type 0
CodesAreCountedThrough = named_codes ≡ numbered 0 primitive_names

pub codes-counted_through : CodesAreCountedThrough
unfolding named_codes expandable_codes integer_parameter_codes dimension_parameter_codes glue_parameter_codes token_parameter_codes quantity_codes assignment_codes group_codes box_codes left_out_codes etex_expandable_codes etex_quantity_codes etex_other_codes etex_left_out_codes primitive_names compatibility_names extended_names expandable_names integer_parameters dimension_parameters glue_parameters token_parameters quantity_names assignment_names group_names box_names left_out_names etex_expandable_names etex_quantity_names etex_other_names etex_left_out_names
codes-counted_through = refl
