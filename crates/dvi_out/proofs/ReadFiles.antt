-- The file of some pages is read as these pages.
use Rattle.std.proofs.Common.{◌≡◌, ℕ, zero, suc, ◌+◌, ◌*◌, ◌<◌, ◌≤◌, ℤ, Bool, true, false, ◌||◌, nat_le, Option, Some, None, List, [], ◌∷◌, ◌++◌, length, drop, map, All, refl, sym, ap, ◌∙◌, arith, append_assoc, option_and_then, if◌then◌else◌, Ok}
use Rattle.std.specs.Int.{w32}
use Rattle.std.specs.Int.RustNames.{FitsSigned}
use Rattle.std.specs.List.{fold, find, flat_map, AllByRecursion}
use Rattle.std.proofs.lemmas.Bool.{le-leb}
use Rattle.std.proofs.lemmas.List.{append-nil, drop_all, length-append}
use Rattle.std.proofs.lemmas.List.Elements.{recursion_from_All}
use Rattle.byteorder.specs.Endian.{big_number}
use Rattle.dvi_out.specs.declared.command.Command.{Command}
use Rattle.dvi_out.specs.declared.command.Command.TheVariants.{Push, Pop, Right, Down, Character, SetRule, PutRule, Special}
use Rattle.dvi_out.specs.declared.font.FontDef.{FontDef}
use Rattle.dvi_out.specs.Places.{Placed, places}
use Rattle.dvi_out.specs.DviReading.{Reader, ReadPage, read_from, read, at_start, taking, begin_page, end_page, counts_in}
use Rattle.dvi_out.specs.SpellingPage.{Spelled, spelled, Given, given_for, signed_four, four, one, is_font, is_defined, is_chosen, with_definition, with_choice, with_font, with_right, with_down, spell, spell_all}
use Rattle.dvi_out.specs.SpellingFile.{DviFile, ShippedPage, no_file, begun, preamble, unit, two, pointer, page_walk, page_spelled, page_bytes, with_walk, with_page, page_answer, definition_if, definitions_below, post, post_post, postamble, finished}
use Rattle.dvi_out.specs.SpellingStory.{file_of}
use Rattle.dvi_out.specs.Obeying.{CanBeSpelled, HasShortName, Leads, SetTheSame}
use Rattle.dvi_out.specs.WalksSet.{SizesFit}
use Rattle.dvi_out.specs.ReadIsSet.{CanBeReadBack, AreTaken, as_read, WhatIsReadIsWhatWasSet}
use Rattle.dvi_out.proofs.ReadingNumbers.{back4, one_back}
use Rattle.dvi_out.proofs.ReadingCommands.{leads_one, leads_none, leads_then, leads_definition, taking-front}
use Rattle.dvi_out.proofs.ReadBack.{commands_read_back, shorten}
use Rattle.dvi_out.proofs.WalkPages.{walks_set_places}
use Rattle.dvi_out.proofs.SpelledLength.{all_can, taken_short}

-- ---- what stands around the pages

comment_passed : (r : Reader) (front comment rest : List ℕ) (long : ℕ) → length front ≡ 14 → long ≡ length comment →
    taking (14 + long) (Some r) ((front ++ comment) ++ rest) ≡ Some (r, rest)
comment_passed r front comment rest long is_front is =
    taking-front (14 + long) r (front ++ comment) rest (omega (arith, length-append front comment))

preamble_leads : (widths : ℕ → ℕ → ℤ) (r : Reader) (mag : ℤ) (comment : List ℕ) → length comment < 256 →
    Leads widths r (preamble mag comment) r
unfolding preamble
preamble_leads widths r mag comment short =
    let front = 2 ∷ unit ++ signed_four mag ++ one (length comment) in
    leads_one widths r 247 (front ++ comment) r
    (λ rest. comment_passed r front comment rest (big_number 1 (one (length comment) ++ (comment ++ rest))) refl
    (one_back (length comment) (comment ++ rest) short))

counts_back : (n : ℕ) (counts : List ℤ) (rest : List ℕ) → length counts ≡ n → AllByRecursion (FitsSigned w32) counts →
    counts_in n (flat_map signed_four counts ++ rest) ≡ counts
counts_back zero [] rest is fits = refl
counts_back zero (c ∷ counts) rest is fits = absurd (omega arith)
counts_back (suc n) [] rest is fits = absurd (omega arith)
counts_back (suc n) (c ∷ counts) rest is fits =
    ap (λ (z : ℤ). z ∷ counts_in n (flat_map signed_four counts ++ rest)) (back4 c (flat_map signed_four counts ++ rest) fits.0)
    ∙ ap (λ (l : List ℤ). c ∷ l) (counts_back n counts rest (omega arith) fits.1)

counts-length : (counts : List ℤ) → length (flat_map signed_four counts) ≡ 4 * length counts
counts-length [] = refl
counts-length (c ∷ counts) = let rest = counts-length counts in omega (arith, rest)

pointer-length : (place : Option ℕ) → length (pointer place) ≡ 4
pointer-length None = refl
pointer-length (Some place) = refl

bop_leads : (widths : ℕ → ℕ → ℤ) (r : Reader) (counts : List ℤ) (last : Option ℕ) → length counts ≡ 10 →
    AllByRecursion (FitsSigned w32) counts → Leads widths r (139 ∷ (flat_map signed_four counts ++ pointer last)) (begin_page counts r)
bop_leads widths r counts last ten fits =
    let args = flat_map signed_four counts ++ pointer last in
    leads_one widths r 139 args (begin_page counts r)
    (λ rest. ap (λ (l : List ℤ). taking 44 (Some (begin_page l r)) (args ++ rest))
    (ap (counts_in 10) (append_assoc (flat_map signed_four counts) (pointer last) rest) ∙ counts_back 10 counts (pointer last ++ rest) ten fits)
    ∙ taking-front 44 (begin_page counts r) args rest
    (omega (arith, length-append (flat_map signed_four counts) (pointer last), counts-length counts, pointer-length last, ten)))

eop_leads : (widths : ℕ → ℕ → ℤ) (r : Reader) → Leads widths r (140 ∷ []) (end_page r)
eop_leads widths r = leads_one widths r 140 [] (end_page r) (λ rest. taking-front 0 (end_page r) [] rest refl)

definitions_lead : (widths : ℕ → ℕ → ℤ) (r : Reader) (fonts : List FontDef) → AllByRecursion HasShortName fonts → (n : ℕ) →
    Leads widths r (definitions_below n fonts) r
unfolding definitions_below
definitions_lead widths r fonts short zero = leads_none widths r
definitions_lead widths r fonts short (suc n) =
    leads_then widths r r r (definition_if (find (is_font n) fonts)) (definitions_below n fonts)
    (one_leads (find (is_font n) fonts) (λ f is. shorten fonts n f short is)) (definitions_lead widths r fonts short n)
  where
    one_leads : (o : Option FontDef) → ((f : FontDef) → o ≡ Some f → HasShortName f) → Leads widths r (definition_if o) r
    one_leads None short = leads_none widths r
    one_leads (Some f) short = leads_definition widths r f (short f refl)

post_leads : (widths : ℕ → ℕ → ℤ) (r : Reader) (file : DviFile) → AllByRecursion HasShortName file.fonts → Leads widths r (post file) r
unfolding post
post_leads widths r file short =
    let numbers = pointer file.last ++ unit ++ signed_four file.mag ++ four file.tallest ++ four file.widest ++ two file.deepest ++ two file.pages in
    leads_then widths r r r (248 ∷ numbers) (definitions_below 256 file.fonts)
    (leads_one widths r 248 numbers r (λ rest. taking-front 28 r numbers rest (numbers-length (pointer file.last) (pointer-length file.last))))
    (definitions_lead widths r file.fonts short 256)
  where
    numbers-length : (p : List ℕ) → length p ≡ 4 →
        length (p ++ unit ++ signed_four file.mag ++ four file.tallest ++ four file.widest ++ two file.deepest ++ two file.pages) ≡ 28
    numbers-length p is =
        length-append (p ++ unit ++ signed_four file.mag ++ four file.tallest ++ four file.widest ++ two file.deepest) (two file.pages)
        ∙ ap (λ (n : ℕ). n + 2) (length-append (p ++ unit ++ signed_four file.mag ++ four file.tallest ++ four file.widest) (two file.deepest))
        ∙ ap (λ (n : ℕ). n + 2 + 2) (length-append (p ++ unit ++ signed_four file.mag ++ four file.tallest) (four file.widest))
        ∙ ap (λ (n : ℕ). n + 4 + 2 + 2) (length-append (p ++ unit ++ signed_four file.mag) (four file.tallest))
        ∙ ap (λ (n : ℕ). n + 4 + 4 + 2 + 2) (length-append (p ++ unit) (signed_four file.mag))
        ∙ ap (λ (n : ℕ). n + 4 + 4 + 4 + 2 + 2) (length-append p unit)
        ∙ ap (λ (n : ℕ). n + 8 + 4 + 4 + 4 + 2 + 2) is

-- the last command takes all bytes that are left
last_read : (widths : ℕ → ℕ → ℤ) (r : Reader) (bytes : List ℕ) (n : ℕ) → length (249 ∷ bytes) ≤ n →
    read_from n widths r (249 ∷ bytes) ≡ Some r.pages
unfolding read_from
last_read widths r bytes zero long = absurd (omega arith)
last_read widths r bytes (suc n) long =
    ap (λ (o : Option (Reader × List ℕ)). option_and_then (λ next. read_from n widths next.0 next.1) o) (all_taken r bytes)
    ∙ nothing_left widths r n
  where
    all_taken : (r : Reader) (bytes : List ℕ) → taking (length bytes) (Some r) bytes ≡ Some (r, [])
    all_taken r bytes =
        let enough : nat_le (length bytes) (length bytes) ≡ true = le-leb (length bytes) (length bytes) (omega arith) in
        let none : drop (length bytes) bytes ≡ [] = drop_all (length bytes) bytes (omega arith) in
        rw (enough, none) refl

    nothing_left : (widths : ℕ → ℕ → ℤ) (r : Reader) (n : ℕ) → read_from n widths r [] ≡ Some r.pages
    nothing_left widths r zero = refl
    nothing_left widths r (suc n) = refl

-- ---- the fonts that pages define have short names

short_more : (fonts : List FontDef) (f : FontDef) → AllByRecursion HasShortName fonts → HasShortName f →
    AllByRecursion HasShortName (fonts ++ f ∷ [])
short_more [] f short is = (is, tt)
short_more (g ∷ fonts) f short is = (short.0, short_more fonts f short.1 is)

short_both : (a b : List FontDef) → AllByRecursion HasShortName a → AllByRecursion HasShortName b → AllByRecursion HasShortName (a ++ b)
short_both [] b short also = also
short_both (g ∷ a) b short also = (short.0, short_both a b short.1 also)

module _ (given : Given) (short : AllByRecursion HasShortName given.fonts) where
  fresh_defined : (s : Spelled) (known : Bool) (o : Option FontDef) → ((f : FontDef) → o ≡ Some f → HasShortName f) →
      AllByRecursion HasShortName s.fresh → AllByRecursion HasShortName (if known then s else with_definition o s).fresh
  fresh_defined s true o is fresh = fresh
  fresh_defined s false None is fresh = fresh
  fresh_defined s false (Some f) is fresh = short_more s.fresh f fresh (is f refl)

  fresh_choice : (font : ℕ) (s : Spelled) → AllByRecursion HasShortName s.fresh → AllByRecursion HasShortName (with_choice given font s).fresh
  unfolding with_choice
  fresh_choice font s fresh =
      fresh_defined s (is_defined font given.defined || is_defined font s.fresh) (find (is_font font) given.fonts)
      (λ f is. shorten given.fonts font f short is) fresh

  fresh_by : (font : ℕ) (s : Spelled) (chosen : Bool) → AllByRecursion HasShortName s.fresh →
      AllByRecursion HasShortName (if chosen then s else with_choice given font s).fresh
  fresh_by font s true fresh = fresh
  fresh_by font s false fresh = fresh_choice font s fresh

  fresh_font : (font : ℕ) (s : Spelled) → AllByRecursion HasShortName s.fresh → AllByRecursion HasShortName (with_font given font s).fresh
  unfolding with_font
  fresh_font font s fresh = fresh_by font s (is_chosen font s.font) fresh

  fresh_one : (s : Spelled) (c : Command) → AllByRecursion HasShortName s.fresh → AllByRecursion HasShortName (spell given s c).fresh
  unfolding with_right with_down
  fresh_one s Push fresh = fresh
  fresh_one s Pop fresh = fresh
  fresh_one s (Right width) fresh = fresh
  fresh_one s (Down height) fresh = fresh
  fresh_one s (Character font byte) fresh = fresh_font font s fresh
  fresh_one s (SetRule height width) fresh = fresh
  fresh_one s (PutRule height width) fresh = fresh
  fresh_one s (Special bytes) fresh = fresh

  fresh_all : (cs : List Command) (s : Spelled) → AllByRecursion HasShortName s.fresh → AllByRecursion HasShortName (fold (spell given) s cs).fresh
  fresh_all [] s fresh = fresh
  fresh_all (c ∷ cs) s fresh = fresh_all cs (spell given s c) (fresh_one s c fresh)

-- ---- a page, and all pages

record PageLeads (widths : ℕ → ℕ → ℤ) (file : DviFile) (page : ShippedPage) (r : Reader) : Type 0 where
  after : Reader
  leads : Leads widths r (page_bytes file page (page_walk page)) after
  pages : after.pages ≡ r.pages ++ as_read page ∷ []
  fonts : AllByRecursion HasShortName (page_spelled file page (page_walk page)).fresh

all_from : (P : Command → Type 0) (cs : List Command) → AllByRecursion P cs → All P cs
all_from P [] all k d below = absurd (omega arith)
all_from P (c ∷ cs) all zero d below = all.0
all_from P (c ∷ cs) all (suc k) d below = all_from P cs all.1 k d (omega arith)

-- the commands of a page that is taken can be spelled
taken_can : (file : DviFile) (page : ShippedPage) → page_answer file page ≡ Ok (with_page file page) →
    All SizesFit (page_walk page).commands → All CanBeSpelled (page_walk page).commands
unfolding page_spelled
taken_can file page taken fits =
    let commands = (page_walk page).commands in
    all_from CanBeSpelled commands
    (all_can (given_for commands file.fonts page.fonts) commands (spelled [] None [] 0 0) (taken_short file (with_page file page) page taken)
    (recursion_from_All SizesFit commands fits))

page_leads : (widths : ℕ → ℕ → ℤ) (file : DviFile) (page : ShippedPage) (r : Reader) → CanBeReadBack widths page →
    page_answer file page ≡ Ok (with_page file page) → PageLeads widths file page r
unfolding page_bytes page_spelled
page_leads widths file page r can taken =
    let commands = (page_walk page).commands in
    let began = begin_page page.counts r in
    let walked = walks_set_places widths page r can.told in
    let back = commands_read_back widths commands file.fonts page.fonts began walked.after (taken_can file page taken walked.can) can.names refl walked.is in
    let t = back.0 in
    let same : SetTheSame t walked.after = back.2 in
    let bytes = (spell_all commands file.fonts page.fonts).bytes in
    let head = 139 ∷ (flat_map signed_four page.counts ++ pointer file.last) in
    let one : ReadPage = record { counts = t.counts; items = t.items } in
    let found : one ≡ as_read page = same_page t.counts page.counts t.items (places page.shipped page.offset_h page.offset_v)
    (same.counts ∙ walked.counts) (same.items ∙ walked.items) in
    record {
      after = end_page t;
      leads =
          leads_then widths r t (end_page t) (head ++ bytes) (140 ∷ [])
          (leads_then widths r began t head bytes (bop_leads widths r page.counts file.last can.ten (recursion_from_All (FitsSigned w32) page.counts can.counts)) back.1)
          (eop_leads widths t);
      pages =
          ap (λ (l : List ReadPage). l ++ one ∷ []) (same.pages ∙ walked.pages)
          ∙ ap (λ (p : ReadPage). r.pages ++ p ∷ []) found;
      fonts = fresh_all (given_for commands file.fonts page.fonts) (recursion_from_All HasShortName page.fonts can.names) commands
          (spelled [] None [] 0 0) tt;
    }
  where
    same_page : (a b : List ℤ) (x y : List Placed) → a ≡ b → x ≡ y →
        ◌≡◌ {A = ReadPage} (record { counts = a; items = x }) (record { counts = b; items = y })
    same_page a b x y is_counts is_items = cc

record PagesLead (widths : ℕ → ℕ → ℤ) (file done : DviFile) (pages : List ShippedPage) (r : Reader) : Type 0 where
  after : Reader
  piece : List ℕ
  bytes : done.waiting ≡ file.waiting ++ piece
  leads : Leads widths r piece after
  found : after.pages ≡ r.pages ++ map as_read pages
  fonts : AllByRecursion HasShortName done.fonts

pages_lead : (widths : ℕ → ℕ → ℤ) (pages : List ShippedPage) (file : DviFile) (r : Reader) → AllByRecursion (CanBeReadBack widths) pages →
    AreTaken file pages → AllByRecursion HasShortName file.fonts → PagesLead widths file (fold with_page file pages) pages r
unfolding with_walk
pages_lead widths [] file r can taken fonts = record {
  after = r;
  piece = [];
  bytes = sym (append-nil file.waiting);
  leads = leads_none widths r;
  found = sym (append-nil r.pages);
  fonts = fonts;
}
pages_lead widths (page ∷ pages) file r can taken fonts =
    let one = page_leads widths file page r can.0 taken.0 in
    let bytes = page_bytes file page (page_walk page) in
    let rest = pages_lead widths pages (with_page file page) one.after can.1 taken.1 (short_both file.fonts (page_spelled file page (page_walk page)).fresh fonts one.fonts) in
    record {
      after = rest.after;
      piece = bytes ++ rest.piece;
      bytes = rest.bytes ∙ append_assoc file.waiting bytes rest.piece;
      leads = leads_then widths r one.after rest.after bytes rest.piece one.leads rest.leads;
      found =
          rest.found ∙ ap (λ (l : List ReadPage). l ++ map as_read pages) one.pages
          ∙ append_assoc r.pages (as_read page ∷ []) (map as_read pages);
      fonts = rest.fonts;
    }

pub read_is_set : WhatIsReadIsWhatWasSet
unfolding finished begun postamble
read_is_set widths mag comment pages short can taken =
    let r = at_start in
    let file = begun mag comment no_file in
    let done = file_of mag comment pages in
    let lead = pages_lead widths pages file r (recursion_from_All (CanBeReadBack widths) pages can) taken tt in
    let t = lead.after in
    let front = preamble mag comment in
    let tail = post_post done.length (done.length + (length (post done) + 6)) in
    let whole : (finished done).waiting ≡ ((front ++ lead.piece) ++ post done) ++ tail =
    ap (λ (l : List ℕ). l ++ (post done ++ tail)) lead.bytes ∙ sym (append_assoc (front ++ lead.piece) (post done) tail) in
    let leads = leads_then widths r t t (front ++ lead.piece) (post done)
    (leads_then widths r r t front lead.piece (preamble_leads widths r mag comment (omega arith)) lead.leads) (post_leads widths t done lead.fonts) in
    let bytes = ((front ++ lead.piece) ++ post done) ++ tail in
    ap (λ (l : List ℕ). read l widths) whole
    ∙ leads tail t.pages (λ n enough. tail_read widths t done n enough) (length bytes) (omega arith)
    ∙ ap (λ (l : List ReadPage). Some l) lead.found
  where
    tail_read : (widths : ℕ → ℕ → ℤ) (t : Reader) (done : DviFile) (n : ℕ) →
        length (post_post done.length (done.length + (length (post done) + 6))) ≤ n →
        read_from n widths t (post_post done.length (done.length + (length (post done) + 6))) ≡ Some t.pages
    tail_read widths t done n enough = last_read widths t (drop 1 (post_post done.length (done.length + (length (post done) + 6)))) n enough
