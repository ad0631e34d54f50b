-- registers by their ABI names
pub mod Register
-- immediates: whole numbers with a sign, and how they lie in a field
pub mod Immediate
-- the base instructions, and which operands each takes
pub mod Instr
-- the word of an instruction
pub mod Encode
-- the instruction that a word is: computed, and pinned by the laws
pub mod Decode
-- the laws of both
pub mod Laws
