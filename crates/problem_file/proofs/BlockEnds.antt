-- The syntax check of a block finds the same end as the grammar.
use Rattle.std.proofs.Common.{◌≡◌, ℕ, List, drop, Result, Ok, Err, ap}
use Rattle.text_parser.specs.declared.fault.TextFault.{TextFault}
use Rattle.text_parser.specs.declared.fault.TextFault.TheVariants.{NoMemory}
use Rattle.text_parser.specs.Lexemes.{Lexeme}
use Rattle.text_parser.specs.Parsed.{Parsed, ◌>>=◌, Reads, Expects}
use Rattle.while_lang.specs.Blocks.{block, parse_block}
use Rattle.while_lang.specs.BlockScans.{scanning_blocks, scan_block}
use Rattle.while_lang.specs.BlockFaults.{IsBlockFault}
use Rattle.text_parser.proofs.Scanned.{ended}

abbrev fault_of : Result (List Lexeme) TextFault → TextFault
fault_of (Ok ts) = NoMemory
fault_of (Err e) = e

failed : (m : Parsed (Unit {0})) (e : TextFault) → (m >>= λ x. Ok x.1) ≡ Err e → m ≡ Err e
failed (Ok x) e h = absurd cc
failed (Err f) e h = let same : f ≡ e = ap fault_of h in ap (λ d. Err d) same

pub block_ends : (ts us : List Lexeme) (end : ℕ) → Expects ts (Ok end) (scan_block 0 us) → Reads ⊥ (λ (m : Unit {0}). m) ts (Ok (tt, end)) (parse_block scanning_blocks block 0 us)
block_ends ts us end h = ended (parse_block scanning_blocks block 0 us) (drop end ts) h

pub block_fails : (ts us : List Lexeme) (e : TextFault) → Expects ts (Err e) (scan_block 0 us) → IsBlockFault us e → Reads ⊥ (λ (m : Unit {0}). m) ts (Err e) (parse_block scanning_blocks block 0 us)
block_fails ts us NoMemory h fault = fault
block_fails ts us e h fault = failed (parse_block scanning_blocks block 0 us) e h
