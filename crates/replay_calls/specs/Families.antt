-- The families of operations.
use Rattle.replay_calls.specs.declared.operations.Operation.{Operation}
use Rattle.replay_calls.specs.declared.operations.Operation.TheVariants.{BlockNew, BlockNewUnmarked, BlockLen, BlockLenMarked, BlockHasMarked, BlockHasUnmarked, TauHat, IsTauHat, BlockNumber, IsElementMarked, ReadBlock, NumOfBlocks, Len, IterBlockRefusal, OutgoingTransitions, NextIncoming, IsSubsetOf, IterBlock, Display, MarkElement, Incoming, Reachable, SortTopological, BlockUnmarkAll, SwapBlocksHost, BlockPartitionNew, SwapBlocks, SplitMarked, MarkBackwardClosure, PartitionMarkedWith, StrongBisimSignature, BranchingBisimSignatureInductive, BranchingBisimSignature, BranchingBisimSignatureSorted, QuotientLtsNaive, QuotientLtsBlock, RemoveRedundantTransitions, TauSccDecomposition, TauCycleEliminationAndReorder, StrongReduction, ReadFile, WriteFile, ReduceFile}
use Rattle.replay_calls.specs.declared.operations.Family.{Family}
use Rattle.replay_calls.specs.declared.operations.Family.TheVariants.{Numbers, Readers, Tables, Parts, Texts, Few, Records, Six, Dividing, Signing, Walking, Reducing, Filing}

-- the family of an operation
abbrev pub family_of : Operation → Family
family_of BlockNew = Numbers
family_of BlockNewUnmarked = Numbers
family_of BlockLen = Numbers
family_of BlockLenMarked = Numbers
family_of BlockHasMarked = Numbers
family_of BlockHasUnmarked = Numbers
family_of TauHat = Numbers
family_of IsTauHat = Numbers
family_of BlockNumber = Readers
family_of IsElementMarked = Readers
family_of ReadBlock = Readers
family_of NumOfBlocks = Readers
family_of Len = Readers
family_of IterBlockRefusal = Readers
family_of OutgoingTransitions = Tables
family_of NextIncoming = Tables
family_of IsSubsetOf = Tables
family_of IterBlock = Parts
family_of Display = Texts
family_of MarkElement = Few
family_of Incoming = Few
family_of Reachable = Few
family_of SortTopological = Few
family_of BlockUnmarkAll = Records
family_of SwapBlocksHost = Records
family_of BlockPartitionNew = Six
family_of SwapBlocks = Six
family_of SplitMarked = Six
family_of MarkBackwardClosure = Six
family_of PartitionMarkedWith = Dividing
family_of StrongBisimSignature = Signing
family_of BranchingBisimSignatureInductive = Signing
family_of BranchingBisimSignature = Walking
family_of BranchingBisimSignatureSorted = Walking
family_of QuotientLtsNaive = Reducing
family_of QuotientLtsBlock = Reducing
family_of RemoveRedundantTransitions = Reducing
family_of TauSccDecomposition = Reducing
family_of TauCycleEliminationAndReorder = Reducing
family_of StrongReduction = Reducing
family_of ReadFile = Filing
family_of WriteFile = Filing
family_of ReduceFile = Filing
