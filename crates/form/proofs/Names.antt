-- Names and numbers of kinds: each name is in the table or among the long ones, and nothing else is. Assumes nothing.
use mathlib.Core.Path.{◌≡◌, refl, sym, ◌∙◌}
use mathlib.Core.Bool.{Bool, true, false, cond, ◌&&◌, ◌||◌}
use mathlib.Core.Option.{Option, some, none, map, some-injective, none-ne-some}
use mathlib.Core.List.{List, [], ◌∷◌}
use Prim.Native.Nat.{ℕ, zero, suc, ◌+◌, ◌*◌, ◌/◌, ◌%◌, ◌^◌, ◌≤◌, ◌<◌}
use native.Mathlib.Omega.{arith}
use borrow.Author.Tests.{eqb-true, ne_eqb, ltb-true, lt-ltb, lt-leb}
use lib.Dec.{eqb, ltb, leb}
use lib.ListN.{length, length-drop, get_or, drop}
use lib.Pow.{are_bytes}
use lib.Seq.{drop-length, drop-cons}
use Rattle.ast.specs.declared.Frame.{Frame}
use Rattle.ast.specs.declared.Unary as U
use Rattle.ast.specs.declared.Unary.TheVariants as Unary
use Rattle.ast.specs.declared.Scratched as S
use Rattle.ast.specs.declared.Scratched.TheVariants as Scratched
use Rattle.ast.specs.declared.Binary as B
use Rattle.ast.specs.declared.Binary.TheVariants as Binary
use Rattle.ast.specs.declared.Fused as F
use Rattle.ast.specs.declared.Fused.TheVariants as Fused
use Rattle.text.specs.Ascii.{bytes}
use Rattle.text.specs.Readers.{same}
use Rattle.text.proofs.Joined.{free, same_is}
use Rattle.base.specs.Tests.{all, member}
use Rattle.base.proofs.Bools.{both}
use Rattle.base.proofs.Tested.{tested}
use Rattle.form.specs.Inner.Syntax.{name, names}
use Rattle.form.specs.Inner.Read.{first, kind_in, kind_of}
use Rattle.form.specs.Inner.Names.{unary_number, scratched_number, binary_number, fused_number, frame_number}
use Rattle.form.specs.Inner.Names.{unary_at, scratched_at, binary_at, fused_at, frame_at, kind_code, coded, kind_at}
use Rattle.form.specs.Inner.Names.{name_word, name_place, row_at, entry, code_at}
use Rattle.form.specs.declared.Kind.{Kind}

-- ---- each operation: its number is one digit, and tells it

pub unary_back : (k : U.Unary) → (unary_number k < 16) × (unary_at (unary_number k) ≡ k)
unary_back Unary.Fmov = (omega arith, refl)
unary_back Unary.Recip = (omega arith, refl)
unary_back Unary.Round = (omega arith, refl)
unary_back Unary.Floor = (omega arith, refl)
unary_back Unary.Not = (omega arith, refl)

pub scratched_back : (k : S.Scratched) → (scratched_number k < 16) × (scratched_at (scratched_number k) ≡ k)
scratched_back Scratched.Sign = (omega arith, refl)
scratched_back Scratched.Frac = (omega arith, refl)

pub binary_back : (k : B.Binary) → (binary_number k < 16) × (binary_at (binary_number k) ≡ k)
binary_back Binary.Minus = (omega arith, refl)
binary_back Binary.Times = (omega arith, refl)
binary_back Binary.Divide = (omega arith, refl)
binary_back Binary.Gt = (omega arith, refl)
binary_back Binary.Neq = (omega arith, refl)
binary_back Binary.And = (omega arith, refl)
binary_back Binary.Andnot = (omega arith, refl)
binary_back Binary.Or = (omega arith, refl)
binary_back Binary.Xor = (omega arith, refl)

pub fused_back : (k : F.Fused) → (fused_number k < 16) × (fused_at (fused_number k) ≡ k)
fused_back Fused.MulAdd = (omega arith, refl)
fused_back Fused.MulSub = (omega arith, refl)
fused_back Fused.NegMulAdd = (omega arith, refl)
fused_back Fused.NegMulSub = (omega arith, refl)

frame_back : (f : Frame) → (frame_number f < 16) × (frame_at (frame_number f) ≡ f)
frame_back Frame.Fast = (omega arith, refl)
frame_back Frame.Indirect = (omega arith, refl)

-- ---- each kind: its number is two digits, and tells it

few_kind : (k : Kind) → kind_code k < 256
few_kind (Kind.Unary u) = omega (arith, (unary_back u).0)
few_kind (Kind.Scratched u) = omega (arith, (scratched_back u).0)
few_kind (Kind.Binary u) = omega (arith, (binary_back u).0)
few_kind (Kind.Fused u) = omega (arith, (fused_back u).0)
few_kind Kind.Ifelse = omega arith
few_kind Kind.Load = omega arith
few_kind Kind.Save = omega arith
few_kind Kind.LoadConst = omega arith
few_kind Kind.BranchIf = omega arith
few_kind Kind.SetLabel = omega arith
few_kind (Kind.Head f) = omega (arith, (frame_back f).0)
few_kind Kind.Float = omega arith
few_kind Kind.Bits = omega arith

pub few_coded : (o : Option Kind) → coded o < 256
few_coded none = omega arith
few_coded (some k) = few_kind k

shape_is : (s n : ℕ) → s < 16 → (s + 16 * n) % 16 ≡ s
shape_is s n h = omega arith

operation_is : (s n : ℕ) → s < 16 → (s + 16 * n) / 16 ≡ n
operation_is s n h = omega arith

pub kind_back : (o : Option Kind) → kind_at (coded o) ≡ o
unfolding kind_at
kind_back none = refl
kind_back (some (Kind.Unary u)) = rw (shape_is 0 (unary_number u) (omega arith), operation_is 0 (unary_number u) (omega arith), (unary_back u).1)
kind_back (some (Kind.Scratched u)) = rw (shape_is 1 (scratched_number u) (omega arith), operation_is 1 (scratched_number u) (omega arith), (scratched_back u).1)
kind_back (some (Kind.Binary u)) = rw (shape_is 2 (binary_number u) (omega arith), operation_is 2 (binary_number u) (omega arith), (binary_back u).1)
kind_back (some (Kind.Fused u)) = rw (shape_is 3 (fused_number u) (omega arith), operation_is 3 (fused_number u) (omega arith), (fused_back u).1)
kind_back (some Kind.Ifelse) = refl
kind_back (some Kind.Load) = refl
kind_back (some Kind.Save) = refl
kind_back (some Kind.LoadConst) = refl
kind_back (some Kind.BranchIf) = refl
kind_back (some Kind.SetLabel) = refl
kind_back (some (Kind.Head f)) = rw (shape_is 10 (frame_number f) (omega arith), operation_is 10 (frame_number f) (omega arith), (frame_back f).1)
kind_back (some Kind.Float) = refl
kind_back (some Kind.Bits) = refl

-- ---- a test that all names pass is passed by the one that is named

pub named_is : (q : List ℕ → Kind → Bool) (s : List ℕ) (ns : List (List ℕ × Kind)) (k : Kind) → all (λ m. q m.0 m.1) ns ≡ true → kind_in s ns ≡ some k → q s k ≡ true
unfolding first
named_is q s [] k h e = absurd (none-ne-some k e)
named_is q s (n ∷ ns) k h e = go (same s n.0) refl e (both (q n.0 n.1) (all (λ m. q m.0 m.1) ns) h) (named_is q s ns k)
  where
    go : (t : Bool) → same s n.0 ≡ t → map (λ m. m.1) (cond t (some n) (first (λ m. m.0) s ns)) ≡ some k → (q n.0 n.1 ≡ true) × (all (λ m. q m.0 m.1) ns ≡ true) → (all (λ m. q m.0 m.1) ns ≡ true → kind_in s ns ≡ some k → q s k ≡ true) → q s k ≡ true
    go true g e p r = rw (same_is s n.0 g, ← (some-injective n.1 k e)) p.0
    go false g e p r = r p.1 e

-- what fails it names nothing
none_named : (q : List ℕ → Bool) → all (λ m. q m.0) names ≡ true → (s : List ℕ) → q s ≡ false → 255 ≡ coded (kind_of s)
none_named q h s f = go (kind_of s) refl
  where
    go : (o : Option Kind) → kind_of s ≡ o → 255 ≡ coded o
    go none e = refl
    go (some k) e = absurd (let z : true ≡ false = sym (named_is (λ t j. q t) s names k h e) ∙ f in let y : ◌≡◌ {A = ℕ} 0 1 = cc in omega (arith, y))

-- ---- longer names

abbrev long_name : List ℕ → Bool
long_name s =
    same s (bytes "fused_mul_add")
    || (same s (bytes "fused_mul_sub")
    || (same s (bytes "fused_neg_mul_add")
    || (same s (bytes "fused_neg_mul_sub")
    || (same s (bytes "load_const")
    || same s (bytes "indirect")))))

long_names : all (λ m. leb (length m.0) 6 || long_name m.0) names ≡ true
unfolding same
long_names = refl

-- the numbers of these names
module _ (s : List ℕ) where
  is_name : (w : List ℕ) (c : ℕ) → c ≡ coded (kind_of w) → same s w ≡ true → c ≡ coded (kind_of s)
  is_name w c h e = rw (same_is s w e) h

  pub is_mul_add : same s (bytes "fused_mul_add") ≡ true → 0x03 ≡ coded (kind_of s)
  unfolding first same
  is_mul_add = is_name (bytes "fused_mul_add") 0x03 refl

  pub is_mul_sub : same s (bytes "fused_mul_sub") ≡ true → 0x13 ≡ coded (kind_of s)
  unfolding first same
  is_mul_sub = is_name (bytes "fused_mul_sub") 0x13 refl

  pub is_neg_mul_add : same s (bytes "fused_neg_mul_add") ≡ true → 0x23 ≡ coded (kind_of s)
  unfolding first same
  is_neg_mul_add = is_name (bytes "fused_neg_mul_add") 0x23 refl

  pub is_neg_mul_sub : same s (bytes "fused_neg_mul_sub") ≡ true → 0x33 ≡ coded (kind_of s)
  unfolding first same
  is_neg_mul_sub = is_name (bytes "fused_neg_mul_sub") 0x33 refl

  pub is_load_const : same s (bytes "load_const") ≡ true → 0x07 ≡ coded (kind_of s)
  unfolding first same
  is_load_const = is_name (bytes "load_const") 0x07 refl

  pub is_indirect : same s (bytes "indirect") ≡ true → 0x1a ≡ coded (kind_of s)
  unfolding first same
  is_indirect = is_name (bytes "indirect") 0x1a refl

  pub no_long : 6 < length s → same s (bytes "fused_mul_add") ≡ false → same s (bytes "fused_mul_sub") ≡ false → same s (bytes "fused_neg_mul_add") ≡ false
      → same s (bytes "fused_neg_mul_sub") ≡ false → same s (bytes "load_const") ≡ false → same s (bytes "indirect") ≡ false → 255 ≡ coded (kind_of s)
  no_long h a b c d e f = none_named (λ t. leb (length t) 6 || long_name t) long_names s (rw (lt-leb (length s) 6 h, a, b, c, d, e, f))

-- ---- the table

-- what a row of the code's `match` says
pub at_row : {r n p k : ℕ} → r ≡ n → p ≡ k → n ≡ entry (row_at k) → r ≡ entry (row_at p)
at_row e g h = rw (e, g) h

-- and that no row is left: the places that have a name, from p on
abbrev with_place : (p : ℕ) → Option (List ℕ × Kind) → List ℕ → List ℕ
with_place p none ps = ps
with_place p (some r) ps = p ∷ ps

abbrev places_from : (p n : ℕ) → List ℕ
places_from p zero = []
places_from p (suc n) = with_place p (row_at p) (places_from (suc p) n)

abbrev Others : Type 0 → List ℕ → ℕ → Type 0
Others N [] p = N
Others N (k ∷ ks) p = Others (N × (p ≡ k → ⊥)) ks p

others : {N : Type 0} (ks : List ℕ) (p : ℕ) → Others N ks p → N × (member p ks ≡ false)
others [] p h = (h, refl)
others (k ∷ ks) p h =
    let g = others ks p h in
    (g.0.0, rw (ne_eqb p k g.0.1, g.1))

pub no_row : (p : ℕ) → p < 32 → Others (Unit {0}) (places_from 0 32) p → 0 ≡ entry (row_at p)
no_row p h o = sym (eqb-true _ 0 (rw (others (places_from 0 32) p o).1 at (tested (λ i. member i (places_from 0 32) || eqb (entry (row_at i)) 0) 32 p refl h)))

-- a comma is not nothing
more : (bs : List ℕ) → 44 ≤ name_word bs
more [] = omega arith
more (b ∷ bs) = let h = more bs in omega (arith, h)

-- bytes and a comma are told by their number
same_bytes : (s t : List ℕ) → are_bytes s ≡ true → are_bytes t ≡ true → name_word s ≡ name_word t → s ≡ t
same_bytes [] [] a b e = refl
same_bytes [] (y ∷ t) a b e = absurd (let h = more t in omega (arith, h, e))
same_bytes (x ∷ s) [] a b e = absurd (let h = more s in omega (arith, h, e))
same_bytes (x ∷ s) (y ∷ t) a b e =
    let p = both (ltb x 256) (are_bytes s) a in
    let q = both (ltb y 256) (are_bytes t) b in
    let u = ltb-true x 256 p.0 in
    let v = ltb-true y 256 q.0 in
    let h : x ≡ y = omega (arith, e, u, v) in
    let t' = same_bytes s t p.1 q.1 (omega (arith, e, u, v)) in
    rw (h, t')

-- an entry has a name and its number
abbrev right : Option (List ℕ × Kind) → Bool
right none = true
right (some r) = are_bytes r.0 && (eqb (entry (some r) % 2 ^ 56) (name_word r.0) && eqb (entry (some r) / 2 ^ 56) (coded (kind_of r.0)))

all_right : (p : ℕ) → p < 32 → right (row_at p) ≡ true
unfolding first same
all_right p h = tested (λ i. right (row_at i)) 32 p refl h

-- each short name is in the table
abbrev in_table : List ℕ → Bool
in_table s = eqb (entry (row_at (name_place (name_word s))) % 2 ^ 56) (name_word s)

short_names : all (λ m. leb 7 (length m.0) || in_table m.0) names ≡ true
short_names = refl

module _ (t : List ℕ) (b : are_bytes t ≡ true) (h : length t < 7) where
  abbrev its_row : Option (List ℕ × Kind)
  its_row = row_at (name_place (name_word t))

  found : (o : Option (List ℕ × Kind)) → right o ≡ true → entry o % 2 ^ 56 ≡ name_word t → entry o / 2 ^ 56 ≡ coded (kind_of t)
  found none r g = absurd (omega (arith, more t, g))
  found (some k) r g =
      let u = both (are_bytes k.0) _ r in
      let v = both (eqb (entry (some k) % 2 ^ 56) (name_word k.0)) _ u.1 in
      let i : t ≡ k.0 = same_bytes t k.0 b u.0 (sym g ∙ eqb-true _ _ v.0) in
      eqb-true _ _ v.1 ∙ rw i

  pub short_coded : code_at (name_word t) ≡ coded (kind_of t)
  short_coded = go (in_table t) refl
    where
      go : (u : Bool) → in_table t ≡ u → cond u (entry its_row / 2 ^ 56) 255 ≡ coded (kind_of t)
      go true e = found its_row (all_right (name_place (name_word t)) (omega arith)) (eqb-true _ _ e)
      go false e = none_named (λ s. leb 7 (length s) || in_table s) short_names t (rw (lt-leb 7 (length t) h, e))

-- ---- a short name, byte by byte from its end

-- what so many bytes and a comma stay below
abbrev cap : ℕ → ℕ
cap zero = 256
cap (suc k) = cap k * 256

some_room : (k : ℕ) → 44 < cap k
some_room zero = omega arith
some_room (suc k) = omega (arith, some_room k)

small : (k : ℕ) (l : List ℕ) → length l ≤ k → are_bytes l ≡ true → name_word l < cap k
small k [] h a = some_room k
small zero (b ∷ l) h a = absurd (omega arith)
small (suc k) (b ∷ l) h a =
    let p = both (ltb b 256) (are_bytes l) a in
    omega (arith, small k l (omega arith) p.1, ltb-true b 256 p.0)

module _ (s : List ℕ) where
  -- from byte i on
  abbrev pub Spelled : (i w : ℕ) → Type 0
  Spelled i w = (i ≤ length s) × (w ≡ name_word (drop i s)) × (are_bytes (drop i s) ≡ true)

  pub spelled_none : Spelled (length s) 44
  spelled_none = (omega arith, rw (drop-length s), rw (drop-length s))

  -- another byte does not overflow
  pub spelled_small : (i w : ℕ) → length s ≤ 6 → 0 < i → Spelled i w → w < 281474976710656
  spelled_small i w h g p = rw p.1 (small 5 (drop i s) (rw (length-drop i s) (omega arith)) p.2)

  pub spelled_more : (i w : ℕ) → suc i ≤ length s → get_or s i 0 < 256 → Spelled (suc i) w → Spelled i (w * 256 + get_or s i 0)
  spelled_more i w h b p =
      let d = drop-cons s i 0 h in
      (omega arith, rw (d, p.1), rw (d, lt-ltb _ _ b, p.2))

-- ---- a kind's name: it says this kind, and has no comma

-- the definitions by which a line is read, as they compute
abbrev equal : List ℕ → List ℕ → Bool
equal [] [] = true
equal [] (b ∷ bs) = false
equal (a ∷ xs) [] = false
equal (a ∷ xs) (b ∷ bs) = eqb a b && equal xs bs

abbrev pub found_in : List ℕ → List (List ℕ × Kind) → Option Kind
found_in s [] = none
found_in s (n ∷ ns) = cond (equal s n.0) (some n.1) (found_in s ns)

equal_same : (s t : List ℕ) → same s t ≡ equal s t
unfolding same
equal_same [] [] = refl
equal_same [] (b ∷ bs) = refl
equal_same (a ∷ xs) [] = refl
equal_same (a ∷ xs) (b ∷ bs) = rw (equal_same xs bs)

pub found_is : (s : List ℕ) (ns : List (List ℕ × Kind)) → kind_in s ns ≡ found_in s ns
unfolding first
found_is s [] = refl
found_is s (n ∷ ns) = rw (equal_same s n.0) (by (equal s n.0) (found_is s ns))
  where
    by : (t : Bool) → kind_in s ns ≡ found_in s ns → map (λ m. m.1) (cond t (some n) (first (λ m. m.0) s ns)) ≡ cond t (some n.1) (found_in s ns)
    by true e = refl
    by false e = e

pub name_says : (k : Kind) → (found_in (name k) names ≡ some k) × (free (name k) ≡ true)
name_says Kind.Float = (refl, refl)
name_says Kind.Bits = (refl, refl)
name_says (Kind.Head Frame.Fast) = (refl, refl)
name_says (Kind.Head Frame.Indirect) = (refl, refl)
name_says Kind.LoadConst = (refl, refl)
name_says Kind.Load = (refl, refl)
name_says Kind.Save = (refl, refl)
name_says Kind.BranchIf = (refl, refl)
name_says Kind.SetLabel = (refl, refl)
name_says Kind.Ifelse = (refl, refl)
name_says (Kind.Unary Unary.Fmov) = (refl, refl)
name_says (Kind.Unary Unary.Recip) = (refl, refl)
name_says (Kind.Unary Unary.Round) = (refl, refl)
name_says (Kind.Unary Unary.Floor) = (refl, refl)
name_says (Kind.Unary Unary.Not) = (refl, refl)
name_says (Kind.Scratched Scratched.Sign) = (refl, refl)
name_says (Kind.Scratched Scratched.Frac) = (refl, refl)
name_says (Kind.Fused Fused.MulAdd) = (refl, refl)
name_says (Kind.Fused Fused.MulSub) = (refl, refl)
name_says (Kind.Fused Fused.NegMulAdd) = (refl, refl)
name_says (Kind.Fused Fused.NegMulSub) = (refl, refl)
name_says (Kind.Binary Binary.Minus) = (refl, refl)
name_says (Kind.Binary Binary.Times) = (refl, refl)
name_says (Kind.Binary Binary.Divide) = (refl, refl)
name_says (Kind.Binary Binary.Gt) = (refl, refl)
name_says (Kind.Binary Binary.Neq) = (refl, refl)
name_says (Kind.Binary Binary.And) = (refl, refl)
name_says (Kind.Binary Binary.Andnot) = (refl, refl)
name_says (Kind.Binary Binary.Or) = (refl, refl)
name_says (Kind.Binary Binary.Xor) = (refl, refl)
