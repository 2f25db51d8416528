-- What a device does that reads a DVI file: the commands one after the other, with the position, the four widths that
-- are kept, and the stack on which all six are put.
-- From: tex.web, sections 583 to 591 (the DVI format, version 2).
use Rattle.std.specs.Prelude.{ℕ, zero, suc, ◌+◌, ◌-◌, Bool, ◌&&◌, ℤ, pos, ◌+ℤ◌, List, [], ◌∷◌, ◌++◌, length, take, drop, Option, Some, None, option_and_then, nat_lt, nat_le, ◌==◌, if◌then◌else◌}
use Rattle.std.specs.Int.{w32, int_wrap}
use Rattle.byteorder.specs.Endian.{big_number, twos_complement}
use Rattle.dvi_out.specs.Places.{Placed, Glyph, Bar, Text}

-- the position and the widths
pub record Kept : Type 0 where
  pub h : ℤ
  pub v : ℤ
  pub w : ℤ
  pub x : ℤ
  pub y : ℤ
  pub z : ℤ

-- a page: its ten counts, and what is set and where
pub record ReadPage : Type 0 where
  pub counts : List ℤ
  pub items : List Placed

-- the reader between two commands: the counts are those of the page that is read
pub record Reader : Type 0 where
  pub now : Kept
  pub stack : List Kept
  pub font : ℕ
  pub counts : List ℤ
  pub items : List Placed
  pub pages : List ReadPage

abbrev pub kept : ℤ → ℤ → ℤ → ℤ → ℤ → ℤ → Kept
kept h v w x y z = record { h = h; v = v; w = w; x = x; y = y; z = z }

abbrev pub reader : Kept → List Kept → ℕ → List ℤ → List Placed → List ReadPage → Reader
reader now stack font counts items pages =
    record { now = now; stack = stack; font = font; counts = counts; items = items; pages = pages }

abbrev pub at_start : Reader
at_start = reader (kept (pos 0) (pos 0) (pos 0) (pos 0) (pos 0) (pos 0)) [] 0 [] [] []

-- ---- what a command does

abbrev pub at_place : Kept → Reader → Reader
at_place now r = reader now r.stack r.font r.counts r.items r.pages

abbrev pub moved : ℤ → ℤ → Kept → Kept
moved by_h by_v k = kept (int_wrap w32 (k.h +ℤ by_h)) (int_wrap w32 (k.v +ℤ by_v)) k.w k.x k.y k.z

abbrev pub go_right : ℤ → Reader → Reader
go_right by r = at_place (moved by (pos 0) r.now) r

abbrev pub go_down : ℤ → Reader → Reader
go_down by r = at_place (moved (pos 0) by r.now) r

abbrev pub with_item : Placed → Reader → Reader
with_item item r = reader r.now r.stack r.font r.counts (r.items ++ item ∷ []) r.pages

abbrev pub set_char : (ℕ → ℕ → ℤ) → ℕ → Reader → Reader
set_char widths byte r = go_right (widths r.font byte) (with_item (Glyph r.now.h r.now.v r.font byte) r)

abbrev pub put_rule : ℤ → ℤ → Reader → Reader
put_rule height width r = with_item (Bar r.now.h r.now.v height width) r

abbrev pub push : Reader → Reader
push r = reader r.now (r.now ∷ r.stack) r.font r.counts r.items r.pages

abbrev pub pop_to : List Kept → Reader → Option Reader
pop_to [] r = None
pop_to (now ∷ stack) r = Some (reader now stack r.font r.counts r.items r.pages)

abbrev pub begin_page : List ℤ → Reader → Reader
begin_page counts r =
    reader (kept (pos 0) (pos 0) (pos 0) (pos 0) (pos 0) (pos 0)) [] 0 counts [] r.pages

abbrev pub end_page : Reader → Reader
end_page r = reader r.now r.stack r.font [] [] (r.pages ++ record { counts = r.counts; items = r.items } ∷ [])

abbrev pub choose : ℕ → Reader → Reader
choose font r = reader r.now r.stack font r.counts r.items r.pages

abbrev pub keep_w : ℤ → Reader → Reader
keep_w by r = go_right by (at_place (kept r.now.h r.now.v by r.now.x r.now.y r.now.z) r)

abbrev pub keep_x : ℤ → Reader → Reader
keep_x by r = go_right by (at_place (kept r.now.h r.now.v r.now.w by r.now.y r.now.z) r)

abbrev pub keep_y : ℤ → Reader → Reader
keep_y by r = go_down by (at_place (kept r.now.h r.now.v r.now.w r.now.x by r.now.z) r)

abbrev pub keep_z : ℤ → Reader → Reader
keep_z by r = go_down by (at_place (kept r.now.h r.now.v r.now.w r.now.x r.now.y by) r)

-- ---- bytes

-- the number in the first n bytes, with a sign
abbrev pub signed : ℕ → List ℕ → ℤ
signed n bytes = twos_complement n (big_number n bytes)

-- ten counts of four bytes each
abbrev pub counts_in : ℕ → List ℕ → List ℤ
counts_in zero bytes = []
counts_in (suc n) bytes = signed 4 bytes ∷ counts_in n (drop 4 bytes)

-- a command that takes n bytes: what it does, and the bytes behind it
abbrev pub taking : ℕ → Option Reader → List ℕ → Option (Reader × List ℕ)
taking n None bytes = None
taking n (Some r) bytes = if nat_le n (length bytes) then Some (r, drop n bytes) else None

abbrev pub is_from : ℕ → ℕ → ℕ → Bool
is_from low high op = nat_le low op && nat_le op high

-- the commands that set something
abbrev pub setting : (ℕ → ℕ → ℤ) → Reader → ℕ → List ℕ → Option (Reader × List ℕ)
setting widths r op bytes =
    if nat_lt op 128 then taking 0 (Some (set_char widths op r)) bytes
    else (if op == 128 then taking 1 (Some (set_char widths (big_number 1 bytes) r)) bytes
    else (if op == 132 then taking 8 (Some (go_right (signed 4 (drop 4 bytes)) (put_rule (signed 4 bytes) (signed 4 (drop 4 bytes)) r))) bytes
    else (if op == 137 then taking 8 (Some (put_rule (signed 4 bytes) (signed 4 (drop 4 bytes)) r)) bytes
    else (if op == 239 then taking (1 + big_number 1 bytes) (Some (with_item (Text r.now.h r.now.v (take (big_number 1 bytes) (drop 1 bytes))) r)) bytes
    else (if op == 242 then taking (4 + big_number 4 bytes) (Some (with_item (Text r.now.h r.now.v (take (big_number 4 bytes) (drop 4 bytes))) r)) bytes
    else None)))))

-- the commands that move
abbrev pub moving : Reader → ℕ → List ℕ → Option (Reader × List ℕ)
moving r op bytes =
    if op == 141 then taking 0 (Some (push r)) bytes
    else (if op == 142 then taking 0 (pop_to r.stack r) bytes
    else (if is_from 143 146 op then taking (op - 142) (Some (go_right (signed (op - 142) bytes) r)) bytes
    else (if op == 147 then taking 0 (Some (go_right r.now.w r)) bytes
    else (if is_from 148 151 op then taking (op - 147) (Some (keep_w (signed (op - 147) bytes) r)) bytes
    else (if op == 152 then taking 0 (Some (go_right r.now.x r)) bytes
    else (if is_from 153 156 op then taking (op - 152) (Some (keep_x (signed (op - 152) bytes) r)) bytes
    else (if is_from 157 160 op then taking (op - 156) (Some (go_down (signed (op - 156) bytes) r)) bytes
    else (if op == 161 then taking 0 (Some (go_down r.now.y r)) bytes
    else (if is_from 162 165 op then taking (op - 161) (Some (keep_y (signed (op - 161) bytes) r)) bytes
    else (if op == 166 then taking 0 (Some (go_down r.now.z r)) bytes
    else (if is_from 167 170 op then taking (op - 166) (Some (keep_z (signed (op - 166) bytes) r)) bytes
    else None)))))))))))

-- pages, fonts, and what stands around the pages; numbers of fonts are read and not looked up
abbrev pub framing : Reader → ℕ → List ℕ → Option (Reader × List ℕ)
framing r op bytes =
    if op == 139 then taking 44 (Some (begin_page (counts_in 10 bytes) r)) bytes
    else (if op == 140 then taking 0 (Some (end_page r)) bytes
    else (if is_from 171 234 op then taking 0 (Some (choose (op - 171) r)) bytes
    else (if op == 235 then taking 1 (Some (choose (big_number 1 bytes) r)) bytes
    else (if op == 243 then taking (15 + big_number 1 (drop 13 bytes) + big_number 1 (drop 14 bytes)) (Some r) bytes
    else (if op == 247 then taking (14 + big_number 1 (drop 13 bytes)) (Some r) bytes
    else (if op == 248 then taking 28 (Some r) bytes
    else (if op == 249 then taking (length bytes) (Some r) bytes
    else None)))))))

abbrev pub or_else : {A : Type 0} → Option A → Option A → Option A
or_else None other = other
or_else (Some value) other = Some value

abbrev pub command : (ℕ → ℕ → ℤ) → Reader → ℕ → List ℕ → Option (Reader × List ℕ)
command widths r op bytes = or_else (setting widths r op bytes) (or_else (moving r op bytes) (framing r op bytes))

-- so many commands at most
unfoldable pub read_from : ℕ → (ℕ → ℕ → ℤ) → Reader → List ℕ → Option (List ReadPage)
read_from n widths r [] = Some r.pages
read_from zero widths r (op ∷ bytes) = None
read_from (suc n) widths r (op ∷ bytes) =
    option_and_then (λ next. read_from n widths next.0 next.1) (command widths r op bytes)

-- Read: the pages of a file, where the widths of characters are given by the number of their font in the file and their
-- byte; nothing where a command isn't known or isn't whole, or a pop has no push
abbrev pub read : List ℕ → (ℕ → ℕ → ℤ) → Option (List ReadPage)
read bytes widths = read_from (length bytes) widths at_start bytes
