-- The numbers of blocks by their names, with another block.
use Rattle.std.proofs.Common.{◌≡◌, ◌<◌, ℕ, ◌+◌, List, [], length, take, get_or, Some, cond, sym, ap, ◌∙◌, String, string_bytes}
use Rattle.std.specs.Str.{bytes_eq}
use Rattle.std.specs.Map.{lookup}
use Rattle.std.specs.BTreeMap.{BTreeMap, is_at, get_by_text, UpdatesBy}
use Rattle.std.specs.Ordering.{nat_cmp}
use Rattle.std.specs.Cmp.Lexicographic.{slice_cmp}
use Rattle.std.specs.String.{string_cmp}
use Rattle.std.specs.declared.alloc.Global.{Global}
use Rattle.std.proofs.lemmas.Map.Text.{btree_map_updates_text}
use Rattle.flow_syntax.specs.declared.written.Block.{Block}
use Rattle.flow_syntax.specs.SyntaxViews.{blocks_syntax}
use Rattle.flow_text.specs.Checking.{found, block_names}
use Rattle.flow_syntax.proofs.Stacked.{blocks_none}
use Rattle.flow_syntax.proofs.LastMembers.{blocks_more}

-- the name of a block before others is that block's
pub found_first : (bs : List Block) (i k : ℕ) (b : Block) (text : List ℕ) → i < length bs → b ≡ get_or bs i b → found (block_names k (blocks_syntax (take (i + 1) bs))) text ≡ cond (bytes_eq b.name.text.now text) (Some k) (found (block_names (k + 1) (blocks_syntax (take i bs))) text)
found_first bs i k b text lt is = ap (λ cs. found (block_names k cs) text) (blocks_more bs i b lt is)

-- no name of no block
pub none_found : (m : BTreeMap (String Global) ℕ) (k : ℕ) (text : List ℕ) → m.entries ≡ [] → get_by_text m text ≡ found (block_names k (blocks_syntax [])) text
none_found m k text empty = ap (λ es. lookup (is_at (λ key. slice_cmp nat_cmp text (string_bytes key))) es) empty ∙ sym (ap (λ bs. found (block_names k bs) text) blocks_none)

pub name_found : (bs : List Block) (i k : ℕ) (b : Block) (m n : BTreeMap (String Global) ℕ) (key : String Global) → i < length bs → b ≡ get_or bs i b → string_bytes key ≡ b.name.text.now → UpdatesBy string_cmp (string_cmp key) m n (Some k) → ((text : List ℕ) → get_by_text m text ≡ found (block_names (k + 1) (blocks_syntax (take i bs))) text) → (text : List ℕ) → get_by_text n text ≡ found (block_names k (blocks_syntax (take (i + 1) bs))) text
name_found bs i k b m n key lt is named updates kept text =
    btree_map_updates_text (string_bytes key) m n (Some k) updates text
    ∙ ap (λ (name : List ℕ). cond (bytes_eq name text) (Some k) (get_by_text m text)) named
    ∙ ap (cond (bytes_eq b.name.text.now text) (Some k)) (kept text)
    ∙ sym (found_first bs i k b text lt is)
