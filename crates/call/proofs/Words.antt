-- The routine's words before the constants are those of valid instructions; and from its bytes in memory to its code.
use mathlib.Core.Path.{◌≡◌, refl, ap, subst}
use mathlib.Core.List.{List, [], ◌∷◌, ◌++◌, flat_map}
use mathlib.Core.Option.{some}
use Prim.Native.Nat.{ℕ, zero, suc, ◌+◌, ◌*◌, ◌/◌, ◌%◌, ◌^◌, ◌<◌}
use native.Mathlib.Nat.{add_assoc, add-zero}
use native.Mathlib.Omega.{arith}
use lib.ListN.{length, get_or, get_elem?, get_or-append}
use lib.Seq.{take-length}
use Rattle.isa.specs.Instr.{Instr}
use Rattle.isa.proofs.Validity.{Valid}
use Rattle.isa.specs.Encode.{encode}
use Rattle.isa.specs.Decode.{decode}
use Rattle.isa.proofs.Laws.{decode_encode, encode_small}
use Rattle.machine.specs.Word.{w64}
use Rattle.machine.specs.Step.{CodeAt, Loaded, words}
use Rattle.machine.proofs.Exec.{bytes_of}
use Rattle.base.proofs.Bools.{and_l}
use Rattle.machine.proofs.Placed.{Small, Valids, code_of_bytes}
use Rattle.ast.specs.declared.Order.{Order}
use Rattle.assembler.specs.Bytes.{bytes}
use Rattle.assembler.specs.Item.{Item, instr, raw, jump, label}
use Rattle.assembler.specs.Resolved.{resolved}
use Rattle.reading.specs.Line.{Line, order, constant}
use Rattle.orders.specs.Code.{code, line_code}
use Rattle.orders.proofs.Items.{resolve}
use Rattle.orders.specs.Fault.{fault}
use Rattle.orders.proofs.Laws.{code_words, code_valid}
use Rattle.ast.specs.Counts.{prologue_holds}
use Rattle.frame_code.specs.Items.{prologue, saves, reloads, epilogue}
use Rattle.frame_code.proofs.Walk.{stands_left, stands_right}
use Rattle.frame_code.proofs.Valid.{AllValid, prologue_valid, saves_valid, reloads_valid, epilogue_valid}
use Rattle.reading.specs.Program.{Program, constants}
use Rattle.call.specs.Layout.{span, body, nop, padding, constants_from, entry, exit, code_items, pad, constants_offset, place, routine_words}
use Rattle.call.proofs.Offset.{line_offset}
use Rattle.call.proofs.Good.{Good}
use Rattle.call.proofs.Items.{resolved_append, resolved_length, Fresh}
use Rattle.call.proofs.Labels.{Early, Late, entry_fresh, exit_fresh}
use Rattle.call.proofs.Padding.{padding_is, front_items, front_span, words_parted}
use Rattle.call.proofs.Whole.{entry_stands, exit_stands}

-- each word is a valid instruction's
abbrev pub Encoded : List ℕ → Type 0
Encoded [] = Unit {0}
Encoded (w ∷ ws) = ((i : Instr) × Valid i × (w ≡ encode i)) × Encoded ws

encoded_join : (us ws : List ℕ) → Encoded us → Encoded ws → Encoded (us ++ ws)
encoded_join [] ws a b = b
encoded_join (u ∷ us) ws a b = (a.0, encoded_join us ws a.1 b)

encoded_words : (is : List Instr) → Valids is → Encoded (words is)
encoded_words [] v = tt
encoded_words (i ∷ is) v = ((i, v.0, refl), encoded_words is v.1)

-- items with no raw word
encoded_items : (at : ℕ → ℕ) (h : ℕ) (xs : List Item) (K : ℕ → Type 0) → Fresh xs K → AllValid at h xs → Encoded (resolved at h xs)
unfolding resolved
encoded_items at h [] K f v = tt
encoded_items at h (instr i ∷ xs) K f v = ((i, v.0, refl), encoded_items at (h + 4) xs K f v.1)
encoded_items at h (raw w ∷ xs) K f v = absurd f
encoded_items at h (jump k m r ∷ xs) K f v = ((_, v.0, refl), encoded_items at (h + 4) xs K f v.1)
encoded_items at h (label m ∷ xs) K f v = encoded_items at h xs (λ l. K l × (m ≡ l → ⊥)) f.1 v

all_valid_join : (at : ℕ → ℕ) (h : ℕ) (xs ys : List Item) → AllValid at h xs → AllValid at (h + span xs) ys → AllValid at h (xs ++ ys)
unfolding span
all_valid_join at h [] ys v w = rw (add-zero h) at w
all_valid_join at h (instr i ∷ xs) ys v w = (v.0, all_valid_join at (h + 4) xs ys v.1 (rw (← (add_assoc h 4 (span xs))) at w))
all_valid_join at h (raw b ∷ xs) ys v w = all_valid_join at (h + 4) xs ys v (rw (← (add_assoc h 4 (span xs))) at w)
all_valid_join at h (jump k m r ∷ xs) ys v w = (v.0, all_valid_join at (h + 4) xs ys v.1 (rw (← (add_assoc h 4 (span xs))) at w))
all_valid_join at h (label m ∷ xs) ys v w = all_valid_join at h xs ys v w

-- the lines' words
body_encoded : (at : ℕ → ℕ) (h : ℕ) (ls : List Line) → ((n : ℕ) (o : Order) → get_elem? ls n ≡ some (order o) → fault o ≡ 0) → Encoded (resolved at h (body ls))
unfolding body line_code resolved
body_encoded at h [] f = tt
body_encoded at h (constant c ∷ ls) f = body_encoded at h ls (λ n o e. f (suc n) o e)
body_encoded at h (order o ∷ ls) f =
    rw (resolved_append at h (code o) (body ls))
    (encoded_join (resolved at h (code o)) _ (subst Encoded (code_words at h o) (encoded_words (resolve at h (code o)) (code_valid at h o (f 0 o refl))))
    (body_encoded at (h + span (code o)) ls (λ n o e. f (suc n) o e)))

-- the nop's
padding_encoded : (at : ℕ → ℕ) (h n k : ℕ) → Encoded (resolved at h (padding n k))
unfolding resolved
padding_encoded at h n k = padding_is (λ is. Encoded (resolved at h is)) tt ((nop, (omega arith, (omega arith, (omega arith, tt))), refl), tt) n k

-- ---- words of 32 bits

small_join : (us ws : List ℕ) → Small us → Small ws → Small (us ++ ws)
small_join [] ws a b = b
small_join (u ∷ us) ws a b = (a.0, small_join us ws a.1 b)

small_encoded : (ws : List ℕ) → Encoded ws → Small ws
small_encoded [] e = tt
small_encoded (w ∷ ws) e = (rw e.0.2 (encode_small e.0.0 e.0.1), small_encoded ws e.1)

small_constants : (at : ℕ → ℕ) (h j : ℕ) (bs : List ℕ) → ((k : ℕ) → k < length bs → get_or bs k 0 < 2 ^ 64) → Small (resolved at h (constants_from j bs))
unfolding resolved constants_from
small_constants at h j [] f = tt
small_constants at h j (b ∷ bs) f = (omega arith, (omega (arith, f 0 (omega arith)), small_constants at (h + 4 + 4) (suc j) bs (λ k l. f (suc k) (omega arith))))

bytes_is : (ws : List ℕ) → bytes ws ≡ bytes_of ws
unfolding bytes bytes_of flat_map
bytes_is [] = refl
bytes_is (w ∷ ws) = ap (λ (bs : List ℕ). w % 256 ∷ w / 2 ^ 8 % 256 ∷ w / 2 ^ 16 % 256 ∷ w / 2 ^ 24 % 256 ∷ bs) (bytes_is ws)

encoded_at : (us : List ℕ) → Encoded us → (k : ℕ) → k < length us → (i : Instr) × Valid i × (get_or us k 0 ≡ encode i)
encoded_at [] e k h = absurd (omega arith)
encoded_at (u ∷ us) e zero h = e.0
encoded_at (u ∷ us) e (suc k) h = encoded_at us e.1 k (omega arith)

module _ (p : Program) (g : Good p) where
  pub entry_valid : AllValid (place p) 0 (entry p)
  entry_valid =
      all_valid_join (place p) 0 (prologue p.head) (saves p.head.mask)
      (prologue_valid (place p) 0 p.head (and_l (prologue_holds p.head) _ g.counts) (stands_left (place p) 0 (prologue p.head) (saves p.head.mask) (entry_stands p)))
      (saves_valid (place p) _ p.head.mask)

  pub exit_valid : AllValid (place p) (line_offset p (length p.lines)) (exit p)
  exit_valid =
      let h : ℕ = line_offset p (length p.lines) in
      let is : List Item = reloads p.head.mask in
      all_valid_join (place p) h is (epilogue p.head) (reloads_valid (place p) h p.head.mask)
      (epilogue_valid (place p) (h + span is) p.head g.counts
      (rw (resolved_length (place p) h is) at (stands_right (place p) h is (epilogue p.head) (exit_stands p g (length p.lines) (omega arith)))))

  code_encoded : Encoded (resolved (place p) 0 (code_items p))
  unfolding line_offset
  code_encoded =
      let x : ℕ = span (entry p) in
      let z : 0 + x ≡ x = omega arith in
      rw (resolved_append (place p) 0 (entry p) (body p.lines ++ exit p), z, resolved_append (place p) x (body p.lines) (exit p))
      (encoded_join (resolved (place p) 0 (entry p)) _ (encoded_items (place p) 0 (entry p) Early (entry_fresh p.head) entry_valid)
      (encoded_join (resolved (place p) x (body p.lines)) _ (body_encoded (place p) x p.lines (λ n o e. (g.orders n o e).fault_free))
      (rw (take-length p.lines) at (encoded_items (place p) (line_offset p (length p.lines)) (exit p) Late (exit_fresh p.head) exit_valid))))

  front_encoded : Encoded (resolved (place p) 0 (front_items p))
  front_encoded =
      rw (resolved_append (place p) 0 (code_items p) (pad p))
      (encoded_join (resolved (place p) 0 (code_items p)) _ code_encoded (padding_encoded (place p) _ (span (code_items p)) (length (constants p.lines))))

  -- Every word before the constants decodes to a valid instruction.
  pub decodes : (k : ℕ) → 4 * k < constants_offset p → (i : Instr) × Valid i × (decode (get_or (routine_words p) k 0) ≡ some i)
  decodes k h =
      let us : List ℕ = resolved (place p) 0 (front_items p) in
      let vs : List ℕ = resolved (place p) (0 + span (front_items p)) (constants_from 0 (constants p.lines)) in
      let l : k < length us = omega (arith, resolved_length (place p) 0 (front_items p), front_span p) in
      let e = encoded_at us front_encoded k l in
      (e.0, e.1, rw (words_parted p, get_or-append us vs 0 k l, e.2) (decode_encode e.0 e.1))

  -- Where the routine's bytes stand, its code stands.
  pub code_stands : (m : ℕ → ℕ) (a : ℕ) → a < 2 ^ 64 → Loaded m a (bytes (routine_words p)) → CodeAt m a (routine_words p)
  code_stands m a h b =
      let e : w64 a ≡ a = omega arith in
      rw e at (code_of_bytes m a (routine_words p)
      (rw (words_parted p)
      (small_join (resolved (place p) 0 (front_items p)) _ (small_encoded (resolved (place p) 0 (front_items p)) front_encoded) (small_constants (place p) _ 0 (constants p.lines) g.bits)))
      (rw (bytes_is (routine_words p)) at b))
