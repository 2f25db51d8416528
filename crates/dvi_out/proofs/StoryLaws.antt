-- A file against all its pages.
use Rattle.std.proofs.Common.{◌≡◌, ℕ, ℤ, Bool, true, false, nat_lt, cond, List, [], ◌∷◌, ◌++◌, length, Result, Ok, Err, refl, sym, ap, ◌∙◌, append_assoc, subst, arith, ◌≤◌, OnOk}
use Rattle.std.proofs.lemmas.List.{append-nil}
use Rattle.std.proofs.lemmas.List.Sums.{fold-append}
use Rattle.tokens.specs.declared.stop.Stop.{Stop}
use Rattle.tokens.specs.declared.stop.Stop.TheVariants.{Capacity}
use Rattle.tokens.specs.declared.cap.Cap.TheVariants.{PageBytes}
use Rattle.dvi_out.specs.SpellingWalk.{Walk}
use Rattle.std.proofs.lemmas.Bool.Decides.{nat_tests}
use Rattle.dvi_out.specs.declared.pages.Page.{Page}
use Rattle.dvi_out.specs.PageMade.{MakesPage, with_made}
use Rattle.dvi_out.specs.SpellingFile.{at_least_zero, reach_down, reach_right, DviFile, ShippedPage, dvi_file, no_file, begun, page_walk, page_spelled, page_bytes, with_walk, with_page, check_answer, if_short, after_check, page_answer, post, postamble, finished, taken}
use Rattle.dvi_out.specs.SpellingStory.{with_taken, StandsFor, KeepsStory, EndsStory, TakesFromStory}

chosen_is : (b : Bool) (stop : Stop) (file after : DviFile) → cond b (Err stop) (Ok file) ≡ Ok after → file ≡ after
chosen_is true stop file after is = cc
chosen_is false stop file after is = cc

checked_is : (check : Result (Unit {0}) Stop) (size : ℕ) (file after : DviFile) →
    after_check check (if_short size file) ≡ Ok after → file ≡ after
checked_is (Ok done) size file after is = chosen_is (nat_lt 16777215 size) (Capacity PageBytes) file after is
checked_is (Err stop) size file after is = cc

-- a page that was shipped is added
pub shipped_is : (file after : DviFile) (page : ShippedPage) → page_answer file page ≡ Ok after → with_page file page ≡ after
shipped_is file after page is =
    checked_is (check_answer file.pages page.shipped page.offset_h page.offset_v)
    (length (page_bytes file page (page_walk page))) (with_page file page) after is

walk_taken : (gone : List ℕ) (file : DviFile) (page : ShippedPage) (w : Walk) →
    with_taken gone (with_walk file page w) ≡ with_walk (with_taken gone file) page w
unfolding with_walk page_bytes page_spelled
walk_taken gone file page w =
    ap (λ (waiting : List ℕ). dvi_file file.mag (with_walk file page w).length waiting (with_walk file page w).last
    (with_walk file page w).fonts (with_walk file page w).tallest (with_walk file page w).widest
    (with_walk file page w).deepest (with_walk file page w).pages)
    (sym (append_assoc gone file.waiting (page_bytes file page w)))

-- so the page is added to all pages
pub page_kept : (file after : DviFile) (page : ShippedPage) → page_answer file page ≡ Ok after → KeepsStory page file after
page_kept file after page is mag comment pages gone stands = record {
  whole =
      ap (with_taken gone) (sym (shipped_is file after page is))
      ∙ walk_taken gone file page (page_walk page)
      ∙ ap (λ (f : DviFile). with_page f page) stands.whole
      ∙ sym (fold-append with_page (begun mag comment no_file) pages (page ∷ []));
}

-- a file that began
pub begun_stands : (mag : ℤ) (comment : List ℕ) → StandsFor mag comment [] [] (begun mag comment no_file)
begun_stands mag comment = record { whole = refl }

finished_taken : (gone : List ℕ) (file : DviFile) → with_taken gone (finished file) ≡ finished (with_taken gone file)
unfolding finished postamble post
finished_taken gone file =
    ap (λ (waiting : List ℕ). dvi_file file.mag (finished file).length waiting file.last file.fonts file.tallest file.widest
    file.deepest file.pages)
    (sym (append_assoc gone file.waiting (postamble file)))

-- the postamble is added to all pages
pub end_kept : (file : DviFile) → EndsStory file (finished file)
end_kept file mag comment pages gone stands = record {
  whole = finished_taken gone file ∙ ap finished stands.whole;
}

taken_twice : (gone : List ℕ) (file : DviFile) → with_taken (gone ++ file.waiting) (taken file) ≡ with_taken gone file
taken_twice gone file =
    ap (λ (waiting : List ℕ). dvi_file file.mag file.length waiting file.last file.fonts file.tallest file.widest
    file.deepest file.pages)
    (append-nil (gone ++ file.waiting))

-- what is taken was in the file
pub taking_kept : (file : DviFile) → TakesFromStory file.waiting file (taken file)
taking_kept file mag comment pages gone = (
  λ stands. record { whole = taken_twice gone file ∙ stands.whole },
  λ whole. record { whole = taken_twice gone file ∙ whole.whole },
)

fits_is : (size : ℕ) (b : Bool) (file : DviFile) → b ≡ false → cond b (Err (Capacity PageBytes)) (Ok file) ≡ Ok file
fits_is size true file is = cc
fits_is size false file is = refl

made_is : (file : DviFile) (page : ShippedPage) (made : Page) (reaches_down reaches_right : ℕ) → MakesPage file page made →
    reaches_down ≡ at_least_zero (reach_down page.shipped page.offset_v) →
    reaches_right ≡ at_least_zero (reach_right page.shipped page.offset_h) →
    with_made file made reaches_down reaches_right ≡ with_page file page
unfolding with_walk
made_is file page made reaches_down reaches_right makes is_down is_right =
    rw (makes.bytes, makes.fresh, makes.deepest, is_down, is_right) refl

-- a page that was made and added was shipped
pub page_by : (file after : DviFile) (page : ShippedPage) (made : Page) (reaches_down reaches_right : ℕ) →
    check_answer file.pages page.shipped page.offset_h page.offset_v ≡ Ok tt → MakesPage file page made →
    length made.bytes.items ≤ 16777215 → reaches_down ≡ at_least_zero (reach_down page.shipped page.offset_v) →
    reaches_right ≡ at_least_zero (reach_right page.shipped page.offset_h) →
    after ≡ with_made file made reaches_down reaches_right → page_answer file page ≡ Ok after
page_by file after page made reaches_down reaches_right passes makes short is_down is_right is =
    let size = length (page_bytes file page (page_walk page)) in
    let small : nat_lt 16777215 size ≡ false = grind (arith, nat_tests, makes.bytes) in
    ap (λ (r : Result (Unit {0}) Stop). after_check r (if_short size (with_page file page))) passes
    ∙ fits_is size (nat_lt 16777215 size) (with_page file page) small
    ∙ ap Ok (sym (is ∙ made_is file page made reaches_down reaches_right makes is_down is_right))

-- what follows from a clause on a call that was answered Ok
pub on_ok : {A E P Q : Type 0} (r : Result A E) → (P → Q) → OnOk r P → OnOk r Q
on_ok (Ok value) f p = f p
on_ok (Err error) f p = p

pub page_story : (old inner after : DviFile) (page : ShippedPage) → inner ≡ old → page_answer inner page ≡ Ok after →
    KeepsStory page old after
page_story old inner after page same is =
    page_kept old after page (sym (ap (λ (f : DviFile). page_answer f page) same) ∙ is)

pub end_story : (old inner after : DviFile) → inner ≡ old → after ≡ finished inner → EndsStory old after
end_story old inner after same is =
    let P : DviFile → Type 0 = λ f. EndsStory old f in subst P (sym (is ∙ ap finished same)) (end_kept old)
