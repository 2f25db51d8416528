-- Whatever is printed is laid out in lines of at most 79 bytes.
use Rattle.std.proofs.Common.{◌≡◌, ◌≢◌, ℕ, ℤ, ◌+◌, ◌/◌, ◌%◌, ◌<◌, ◌≤◌, true, false, cond, List, [], ◌∷◌, ◌++◌, arith, refl, sym, ap, subst, ◌∙◌}
use Rattle.std.specs.Prelude.{nat_lt}
use Rattle.std.proofs.lemmas.Bool.Decides.{nat_tests}
use Rattle.world.specs.Printed.{Strip, nothing_printed, line_ended, byte_put, bytes_put, followed, hex_digit, visible, is_newline, byte_printed, printed}
use Rattle.world.specs.Lines.{column_after_byte, column_of, LinesFit, IsLaidOut, PrintsLines}

column_of-append : (xs ys : List ℕ) (column : ℕ) → column_of (xs ++ ys) column ≡ column_of ys (column_of xs column)
column_of-append [] ys column = refl
column_of-append (x ∷ xs) ys column = column_of-append xs ys (column_after_byte x column)

LinesFit-append : (xs ys : List ℕ) (column : ℕ) → LinesFit xs column → LinesFit ys (column_of xs column) → LinesFit (xs ++ ys) column
LinesFit-append [] ys column h k = k
LinesFit-append (x ∷ xs) ys column h k = (h.0, LinesFit-append xs ys (column_after_byte x column) h.1 k)

-- a strip behind another
laid_out-followed : (s : Strip) (next : ℕ → Strip) (column : ℕ) → IsLaidOut s column → IsLaidOut (next s.column) s.column → IsLaidOut (followed s next) column
laid_out-followed s next column h k =
    record {
      column_is = k.column_is ∙ ap (column_of (next s.column).bytes) h.column_is ∙ sym (column_of-append s.bytes (next s.column).bytes column);
      within = k.within;
      lines = LinesFit-append s.bytes (next s.column).bytes column h.lines (subst (λ (c : ℕ). LinesFit (next s.column).bytes c) h.column_is k.lines);
    }

laid_out-nothing : (column : ℕ) → column < 79 → IsLaidOut (nothing_printed column) column
laid_out-nothing column h = record { column_is = refl; within = h; lines = omega arith }

laid_out-ended : (column : ℕ) → column < 79 → IsLaidOut (line_ended column) column
laid_out-ended column h = record { column_is = refl; within = omega arith; lines = (omega arith, omega arith) }

next_column : (byte column : ℕ) → byte ≢ 10 → column_after_byte byte column ≡ column + 1
next_column byte column ne = grind (arith, nat_tests)

lt_of : (m n : ℕ) → nat_lt m n ≡ true → m < n
lt_of m n e = grind (arith, nat_tests)

ge_of : (m n : ℕ) → nat_lt m n ≡ false → n ≤ m
ge_of m n e = grind (arith, nat_tests)

laid_out-byte_put : (byte column : ℕ) → byte ≢ 10 → column < 79 → IsLaidOut (byte_put byte column) column
laid_out-byte_put byte column ne h =
    let next : column_after_byte byte column ≡ column + 1 = next_column byte column ne in
    let inside : Strip = record { bytes = byte ∷ []; column = column + 1 } in
    let at_end : Strip = record { bytes = byte ∷ 10 ∷ []; column = 0 } in
    elim (nat_lt column 78) as (λ b. nat_lt column 78 ≡ b → IsLaidOut (cond b inside at_end) column) [
      | true ↦ λ t. let below : column < 78 = lt_of column 78 t in record { column_is = sym next; within = omega arith; lines = (omega arith, omega arith) }
      | false ↦ λ t. record { column_is = refl; within = omega arith; lines = (omega arith, (omega arith, omega arith)) }
    ] refl

-- no line feed is among the bytes
NoFeeds : List ℕ → Type 0
NoFeeds [] = Unit {0}
NoFeeds (byte ∷ rest) = (byte ≢ 10) × NoFeeds rest

laid_out-bytes_put : (bytes : List ℕ) (column : ℕ) → NoFeeds bytes → column < 79 → IsLaidOut (bytes_put bytes column) column
unfolding NoFeeds
laid_out-bytes_put [] column ne h = laid_out-nothing column h
laid_out-bytes_put (byte ∷ rest) column ne h =
    let first = laid_out-byte_put byte column ne.0 h in
    laid_out-followed (byte_put byte column) (bytes_put rest) column first (laid_out-bytes_put rest (byte_put byte column).column ne.1 first.within)

not_feed : (byte : ℕ) → 11 ≤ byte → byte ≢ 10
not_feed byte h = λ e. omega arith

caret-not_feed : ◌≢◌ {A = ℕ} 94 10
caret-not_feed = not_feed 94 (omega arith)

hex_digit-not_feed : (n : ℕ) → hex_digit n ≢ 10
hex_digit-not_feed n = elim (nat_lt n 10) as (λ b. cond b (48 + n) (87 + n) ≢ 10) [ true ↦ λ e. omega arith | false ↦ λ e. omega arith ]

NoFeeds-visible : (byte : ℕ) → NoFeeds (visible byte)
unfolding NoFeeds
NoFeeds-visible byte =
    elim (nat_lt byte 32) as (λ b. nat_lt byte 32 ≡ b → NoFeeds (cond b (94 ∷ 94 ∷ (byte + 64) ∷ []) (cond (nat_lt byte 127) (byte ∷ []) (cond (nat_lt byte 128) (94 ∷ 94 ∷ 63 ∷ []) (94 ∷ 94 ∷ hex_digit (byte / 16) ∷ hex_digit (byte % 16) ∷ []))))) [
      | true ↦ λ t. (caret-not_feed, (caret-not_feed, (not_feed (byte + 64) (omega arith), tt)))
      | false ↦ λ t. let above : 32 ≤ byte = ge_of byte 32 t in
          elim (nat_lt byte 127) as (λ b. NoFeeds (cond b (byte ∷ []) (cond (nat_lt byte 128) (94 ∷ 94 ∷ 63 ∷ []) (94 ∷ 94 ∷ hex_digit (byte / 16) ∷ hex_digit (byte % 16) ∷ [])))) [
            | true ↦ (not_feed byte (omega arith), tt)
            | false ↦ elim (nat_lt byte 128) as (λ b. NoFeeds (cond b (94 ∷ 94 ∷ 63 ∷ []) (94 ∷ 94 ∷ hex_digit (byte / 16) ∷ hex_digit (byte % 16) ∷ []))) [
              | true ↦ (caret-not_feed, (caret-not_feed, (not_feed 63 (omega arith), tt)))
              | false ↦ (caret-not_feed, (caret-not_feed, (hex_digit-not_feed (byte / 16), (hex_digit-not_feed (byte % 16), tt))))
            ]
          ]
    ] refl

laid_out-byte_printed : (newline : ℤ) (byte column : ℕ) → column < 79 → IsLaidOut (byte_printed newline byte column) column
laid_out-byte_printed newline byte column h =
    elim (is_newline newline byte) as (λ b. IsLaidOut (cond b (line_ended column) (bytes_put (visible byte) column)) column) [
      | true ↦ laid_out-ended column h
      | false ↦ laid_out-bytes_put (visible byte) column (NoFeeds-visible byte) h
    ]

pub laid_out-printed : PrintsLines
laid_out-printed newline [] column h = laid_out-nothing column h
laid_out-printed newline (byte ∷ rest) column h =
    let first = laid_out-byte_printed newline byte column h in
    laid_out-followed (byte_printed newline byte column) (printed newline rest) column first (laid_out-printed newline rest (byte_printed newline byte column).column first.within)
