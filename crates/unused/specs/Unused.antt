-- Labels nobody jumps to (document 02, point 2): the list of them, from label memory and the record.
use Rattle.std.specs.Prelude.{Bool, true, ◌&&◌, cond, List, [], ◌∷◌, ℕ, zero, suc, ◌+◌, leb, eqb, length, get_or, Result}
use Rattle.std.proofs.lemmas.List.Edits.{sets}
use Rattle.refusal.specs.Answer.{Answer, accepted, refused, answer_of_result}
use Rattle.refusal.specs.Number.{number_of}
use Rattle.refusal.specs.declared.Refusal.TheVariants.{Value}
use Rattle.refusal.specs.declared.Refused.{Refused}
use Rattle.assembler.specs.Limit.{room_limit, label_limit, jump_limit}
use Rattle.assembler.specs.Label.{is_set, made}
use Rattle.assembler.specs.State.{sound}
use Rattle.assembler.specs.declared.Asm.{Asm}

-- a set label "whose number is 0", by its entry
abbrev pub is_unused : ℕ → Bool
is_unused e = is_set e && eqb (made e) 0

-- of the n numbers from i on those that pass the test, "in rising order"
unfoldable pub passing : (test : ℕ → Bool) → (i n : ℕ) → List ℕ
passing test i zero = []
passing test i (suc n) = cond (test i) (i ∷ passing test (i + 1) n) (passing test (i + 1) n)

-- "exactly the set labels whose number is 0", of all 2,039
abbrev pub unused_in : (memory : List ℕ) → List ℕ
unused_in memory = passing (λ l. is_unused (get_or memory l 0)) 0 label_limit

-- no "number above 4,096" among those of the n labels from i on
unfoldable pub numbers_good : (memory : List ℕ) → (i n : ℕ) → Bool
numbers_good memory i zero = true
numbers_good memory i (suc n) = leb (made (get_or memory i 0)) jump_limit && numbers_good memory (i + 1) n

-- "After an accepted finish": the record is closed, and record and numbers are ones that finishing accepts. "before one, number 2"
unfoldable pub listed : (memory : List ℕ) → Asm → Answer (List ℕ)
listed memory a =
    cond (a.closed && (sound room_limit a && numbers_good memory 0 label_limit))
    (accepted (unused_in memory))
    (refused (number_of Value) 0)

-- ---- what the function answers of it, and leaves

-- number and place of each answer, or how many labels there are
abbrev pub unused_answer : Result ℕ Refused → Answer ℕ
unused_answer r = answer_of_result r

abbrev pub counted : Answer (List ℕ) → Answer ℕ
counted (accepted ls) = accepted (length ls)
counted (refused n place) = refused n place

-- the list from the memory's first entry on; a refusal leaves the memory as it was
abbrev pub put_list : Answer (List ℕ) → List ℕ → List ℕ
put_list (accepted ls) out = sets out 0 ls
put_list (refused n place) out = out
