pub mod DescriptorLemmas
