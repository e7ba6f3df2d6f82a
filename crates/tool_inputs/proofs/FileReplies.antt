-- A statement about the reply to bytes holds for the reply to files with these bytes.
use Rattle.std.proofs.Common.{◌≡◌, ◌⊎◌, ◌<◌, ℕ, List, [], ◌∷◌, length, Option, Some, Result, inl, inr, refl, sym, subst}
use Rattle.kat_model.specs.declared.limits.TheConstants.{MAX_TEXT_BYTES}
use Rattle.kat_model.specs.Members.{Has}
use Rattle.kat_io.specs.KnownContent.{KnownContent, Unknown, Known}
use Rattle.kat_io.specs.Gets.{IsPast}
use Rattle.kat_io.specs.Outside.{FaultCounted}
use Rattle.tool_inputs.specs.declared.reply.Reply.{Reply}
use Rattle.tool_inputs.specs.declared.reply.EarlyEnd.{EarlyEnd}
use Rattle.tool_inputs.specs.Contents.{MayContain}
use Rattle.kat_report.specs.InputLines.{too_long_line, words_line}
use Rattle.tool_inputs.specs.Steps.{ShelfUse, ReplySpec, IsRefusal, FailsOn, HasFailedOn, PosesFor, shelf_use}
use Rattle.tool_inputs.specs.FileReplies.{OfFile, WithSecond, OfTwoFiles, IsTooLong}
use Rattle.tool_inputs.specs.ReplySpecs.{RepliesWith}
use Rattle.tool_inputs.proofs.Contents.{held_same, given_bytes}
use Rattle.tool_inputs.proofs.ReplySpecs.{RepliesWith-weaker}
use Rattle.tool_inputs.proofs.Steps.{OneStatus}

-- ---- files whose content is known

-- the reply to a file is that to its bytes
pub of_given : (s : ShelfUse) (file : List ℕ) (R : List ℕ → ReplySpec) (status : ℕ) (output bytes : List ℕ) → s.content file ≡ Known bytes → (FailsOn s file → ⊥) → OfFile s file R status output → R bytes status output
of_given s file R status output bytes is unfailed (inl f) = absurd (unfailed f.fails)
of_given s file R status output bytes is unfailed (inr (got, may, r)) = subst (λ b. R b status output) (held_same (s.content file) bytes got is may) r

module _ (s : ShelfUse) (file other : List ℕ) (Accepts : List ℕ → Type 0) (Both : List ℕ → List ℕ → ReplySpec) (status : ℕ) (output : List ℕ) where
  -- the reply to two files is that to their bytes
  pub of_both_given : (text bytes : List ℕ) → s.content file ≡ Known text → s.content other ≡ Known bytes → (FailsOn s file → ⊥) → (FailsOn s other → ⊥) → OfTwoFiles s file other Accepts Both status output → Both text bytes status output
  of_both_given text bytes is is_other unfailed unfailed_other r = second (of_given s file (WithSecond s other Accepts Both) status output text is unfailed r)
    where
      second : WithSecond s other Accepts Both text status output → Both text bytes status output
      second (inl h) = h.1 bytes
      second (inr h) = of_given s other (Both text) status output bytes is_other unfailed_other h.1

-- ---- the reply to one file

-- a text that is too long is refused
abbrev pub RefusesLong : (List ℕ → ReplySpec) → Type 0
RefusesLong R = (text : List ℕ) → MAX_TEXT_BYTES < length text → R text 2 too_long_line

with_line : (R : ReplySpec) (line : List ℕ) (status : ℕ) (output : List ℕ) → status ≡ 2 → output ≡ line → R 2 line → R status output
with_line R line status output e f r = subst (λ k. R k output) (sym e) (subst (R 2) (sym f) r)

module _ (s : ShelfUse) (file : List ℕ) (R : List ℕ → ReplySpec) where
  long_so : RefusesLong R → (status : ℕ) (output : List ℕ) → OfFile s file (IsTooLong (Some MAX_TEXT_BYTES) too_long_line) status output → OfFile s file R status output
  long_so long status output (inl f) = inl f
  long_so long status output (inr (bytes, may, h)) = inr (bytes, may, with_line (R bytes) too_long_line status output h.1 h.2 (long bytes h.0))

  -- a file that is not read
  pub unread_replied : RefusesLong R → (result : Result Reply EarlyEnd) → RepliesWith (OfFile s file (IsTooLong (Some MAX_TEXT_BYTES) too_long_line)) result → RepliesWith (OfFile s file R) result
  unread_replied long result r = RepliesWith-weaker (OfFile s file (IsTooLong (Some MAX_TEXT_BYTES) too_long_line)) (OfFile s file R) (long_so long) result r

  -- the reply to the bytes that are read
  pub read_replied : (text items : List ℕ) → text ≡ items → MayContain (s.content file) items → (status : ℕ) (output : List ℕ) → R text status output → OfFile s file R status output
  read_replied text items same may status output r = inr (text, subst (MayContain (s.content file)) (sym same) may, r)

-- ---- the reply to two files

module _ (s : ShelfUse) (file other : List ℕ) (Accepts : List ℕ → Type 0) (Both : List ℕ → List ℕ → ReplySpec) where
  -- the first file is not read
  pub first_unread : ((text : List ℕ) → MAX_TEXT_BYTES < length text → (Accepts text → ⊥) × ((bytes : List ℕ) → Both text bytes 2 too_long_line)) → (result : Result Reply EarlyEnd)
      → RepliesWith (OfFile s file (IsTooLong (Some MAX_TEXT_BYTES) too_long_line)) result → RepliesWith (OfTwoFiles s file other Accepts Both) result
  first_unread long result r = unread_replied s file (WithSecond s other Accepts Both) (λ text past. inl (long text past)) result r

  module _ (text items : List ℕ) (same : text ≡ items) (may : MayContain (s.content file) items) (result : Result Reply EarlyEnd) where
    of_text : (status : ℕ) (output : List ℕ) → WithSecond s other Accepts Both text status output → OfTwoFiles s file other Accepts Both status output
    of_text status output r = read_replied s file (WithSecond s other Accepts Both) text items same may status output r

    -- the text of the first file is not accepted
    pub first_refused : (R : ReplySpec) → ((status : ℕ) (output : List ℕ) → R status output → (Accepts text → ⊥) × ((bytes : List ℕ) → Both text bytes status output)) → RepliesWith R result → RepliesWith (OfTwoFiles s file other Accepts Both) result
    first_refused R so r = RepliesWith-weaker R (OfTwoFiles s file other Accepts Both) (λ status output h. of_text status output (inl (so status output h))) result r

    -- the text is accepted, and the second file is read from a shelf that has not failed and whose content is unchanged
    module _ (accepts : Accepts text) (content : List ℕ → KnownContent) (before : ℕ) (holds : content other ≡ s.content other) (represents : before ≡ s.before) where
      second_so : (limit : Option ℕ) (line : List ℕ) → ((bytes : List ℕ) → IsPast (length bytes) limit → Both text bytes 2 line) → (status : ℕ) (output : List ℕ)
          → OfFile (shelf_use content before s.now s.last) other (IsTooLong limit line) status output → OfFile s other (Both text) status output
      second_so limit line long status output (inl f) = inl (record { fails = (subst (λ n. FaultCounted n s.now) represents f.fails.0, f.fails.1); has_status = f.has_status; printed = f.printed })
      second_so limit line long status output (inr (bytes, might, h)) = inr (bytes, subst (λ t. MayContain t bytes) holds might, with_line (Both text bytes) line status output h.1 h.2 (long bytes h.0))

      pub second_unread : (limit : Option ℕ) (line : List ℕ) → ((bytes : List ℕ) → IsPast (length bytes) limit → Both text bytes 2 line)
          → RepliesWith (OfFile (shelf_use content before s.now s.last) other (IsTooLong limit line)) result → RepliesWith (OfTwoFiles s file other Accepts Both) result
      second_unread limit line long r =
          RepliesWith-weaker (OfFile (shelf_use content before s.now s.last) other (IsTooLong limit line)) (OfTwoFiles s file other Accepts Both)
          (λ status output h. of_text status output (inr (accepts, second_so limit line long status output h)))
          result
          r

      pub both_read : (bytes got : List ℕ) → bytes ≡ got → MayContain (content other) got → (R : ReplySpec) → ((status : ℕ) (output : List ℕ) → R status output → Both text bytes status output) → RepliesWith R result → RepliesWith (OfTwoFiles s file other Accepts Both) result
      both_read bytes got is might R so r =
          RepliesWith-weaker R (OfTwoFiles s file other Accepts Both)
          (λ status output h. of_text status output (inr (accepts, read_replied s other (Both text) bytes got is (subst (λ t. MayContain t got) holds might) status output (so status output h))))
          result
          r

-- the reply to a text and any bytes, by what the text poses
module _ {X : Type 0} (Declines : List ℕ → Type 0) (Poses : X → Type 0) (GoesOn : List ℕ → X → ReplySpec) (Both : List ℕ → ReplySpec) (is_reply : (bytes : List ℕ) (status : ℕ) (output : List ℕ) → PosesFor Declines Poses (GoesOn bytes) status output → Both bytes status output) where
  -- a text that poses no question
  pub unposed : (Accepts : Type 0) → ((line : List ℕ) → Declines line → Accepts → ⊥) → (status : ℕ) (output : List ℕ) → IsRefusal Declines status output → (Accepts → ⊥) × ((bytes : List ℕ) → Both bytes status output)
  unposed Accepts excludes status output r = (excludes output r.1, (λ bytes. is_reply bytes status output (inl r)))

  -- a text that poses a question
  pub posed : (q : X) → Poses q → (bytes : List ℕ) (status : ℕ) (output : List ℕ) → GoesOn bytes q status output → Both bytes status output
  posed q poses bytes status output r = is_reply bytes status output (inr (q, poses, r))

  -- more bytes than the limit of a second file are refused
  pub second_long : (q : X) → Poses q → (most limit : Option ℕ) → limit ≡ most → (line printed : List ℕ) → printed ≡ line
      → ((bytes : List ℕ) → IsPast (length bytes) most → GoesOn bytes q 2 line) → (bytes : List ℕ) → IsPast (length bytes) limit → Both bytes 2 printed
  second_long q poses most limit is line printed same long bytes past =
      subst (Both bytes 2) (sym same) (posed q poses bytes 2 line (long bytes (subst (IsPast (length bytes)) is past)))

-- ---- what the program needs of every reply

-- the status of a reply to bytes is below 4, or words do not fit; and there is one
pub record HasOneReply (R : ReplySpec) (Unfit : Type 0) : Type 0 where
  pub small : (status : ℕ) (output : List ℕ) → R status output → (status < 4) ⊎ ((status ≡ 7) × (Unfit × (output ≡ words_line)))
  pub once : OneStatus R

-- the status of a reply to files is below 4, the shelf failed on one of them, or words do not fit; and there is one if the shelf
-- did not fail and the content of each file is known
pub record HasOneFileReply (s : ShelfUse) (files : List (List ℕ)) (R : ReplySpec) (Unfit : Type 0) : Type 0 where
  pub small : (status : ℕ) (output : List ℕ) → R status output
      → (status < 4) ⊎ (((file : List ℕ) × Has files file × HasFailedOn s file status output) ⊎ ((status ≡ 7) × (Unfit × (output ≡ words_line))))
  pub once : (FaultCounted s.before s.now → ⊥) → ((file : List ℕ) → s.content file ≡ Unknown → ⊥) → OneStatus R

of_file_once : (s : ShelfUse) (file : List ℕ) (R : List ℕ → ReplySpec) → (FaultCounted s.before s.now → ⊥) → (s.content file ≡ Unknown → ⊥) → ((bytes : List ℕ) → OneStatus (R bytes)) → OneStatus (OfFile s file R)
of_file_once s file R unfailed given once a b o p (inl f) y = absurd (unfailed f.fails.0)
of_file_once s file R unfailed given once a b o p (inr (bytes, may, r)) y =
    once bytes a b o p r (of_given s file R b p bytes (given_bytes (s.content file) bytes given may) (λ f. unfailed f.0) y)

pub of_file : (s : ShelfUse) (file : List ℕ) (R : List ℕ → ReplySpec) (Unfit : List ℕ → Type 0) → ((bytes : List ℕ) → HasOneReply (R bytes) (Unfit bytes)) → HasOneFileReply s (file ∷ []) (OfFile s file R) ((bytes : List ℕ) × MayContain (s.content file) bytes × Unfit bytes)
of_file s file R Unfit one = record { small = small; once = λ unfailed given. of_file_once s file R unfailed (given file) (λ bytes. (one bytes).once) }
  where
    Small : ℕ → List ℕ → Type 0
    Small status output =
        (status < 4) ⊎ (((f : List ℕ) × Has (file ∷ []) f × HasFailedOn s f status output) ⊎ ((status ≡ 7) × (((bytes : List ℕ) × MayContain (s.content file) bytes × Unfit bytes) × (output ≡ words_line))))

    of_bytes : (status : ℕ) (output bytes : List ℕ) → MayContain (s.content file) bytes → (status < 4) ⊎ ((status ≡ 7) × (Unfit bytes × (output ≡ words_line))) → Small status output
    of_bytes status output bytes may (inl lt) = inl lt
    of_bytes status output bytes may (inr h) = inr (inr (h.0, ((bytes, may, h.1.0), h.1.1)))

    small : (status : ℕ) (output : List ℕ) → OfFile s file R status output → Small status output
    small status output (inl f) = inr (inl (file, inl refl, f))
    small status output (inr (bytes, may, r)) = of_bytes status output bytes may ((one bytes).small status output r)

module _ (s : ShelfUse) (file other : List ℕ) (Accepts : List ℕ → Type 0) (Both : List ℕ → List ℕ → ReplySpec) (one : (text bytes : List ℕ) → HasOneReply (Both text bytes) ⊥) where
  abbrev Small : ℕ → List ℕ → Type 0
  Small status output =
      (status < 4) ⊎ (((f : List ℕ) × Has (file ∷ other ∷ []) f × HasFailedOn s f status output) ⊎ ((status ≡ 7) × (⊥ × (output ≡ words_line))))

  of_bytes : (status : ℕ) (output : List ℕ) → (status < 4) ⊎ ((status ≡ 7) × (⊥ × (output ≡ words_line))) → Small status output
  of_bytes status output (inl lt) = inl lt
  of_bytes status output (inr h) = absurd h.1.0

  both_small : (status : ℕ) (output : List ℕ) → OfTwoFiles s file other Accepts Both status output → Small status output
  both_small status output (inl f) = inr (inl (file, inl refl, f))
  both_small status output (inr (text, may, inl h)) = of_bytes status output ((one text []).small status output (h.1 []))
  both_small status output (inr (text, may, inr (accepts, inl f))) = inr (inl (other, inr (inl refl), f))
  both_small status output (inr (text, may, inr (accepts, inr (bytes, might, r)))) = of_bytes status output ((one text bytes).small status output r)

  second_once : (FaultCounted s.before s.now → ⊥) → (s.content other ≡ Unknown → ⊥) → (text : List ℕ) → OneStatus (WithSecond s other Accepts Both text)
  second_once unfailed given text a b o p (inl x) (inl y) = (one text []).once a b o p (x.1 []) (y.1 [])
  second_once unfailed given text a b o p (inl x) (inr y) = absurd (x.0 y.0)
  second_once unfailed given text a b o p (inr x) (inl y) = absurd (y.0 x.0)
  second_once unfailed given text a b o p (inr x) (inr y) = of_file_once s other (Both text) unfailed given (λ bytes. (one text bytes).once) a b o p x.1 y.1

  pub of_two_files : HasOneFileReply s (file ∷ other ∷ []) (OfTwoFiles s file other Accepts Both) ⊥
  of_two_files = record {
    small = both_small;
    once = λ unfailed given. of_file_once s file (WithSecond s other Accepts Both) unfailed (given file) (second_once unfailed (given other));
  }
